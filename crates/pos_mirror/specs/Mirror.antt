-- A disk in memory over another disk, as contracts see it.
use Rattle.std.specs.Prelude.{◌≡◌, ◌<◌, ◌≤◌, ◌+◌, ◌^◌, ℕ, List, Bool, true, false, Ok, Err, length, get_or, take}
use Rattle.pos_disk.specs.State.{DiskState, CountsNow, OnlyNow}
use Rattle.pos_disk.specs.Memory.{Memory, fresh, state_of, written, synced}
use Rattle.pos_disk.specs.Kept.{counts, only}
use Rattle.pos_disk.specs.Fuse.{with_failures, counts_under, only_under}
use Rattle.pos_disk.specs.declared.device.Disk.{Ghosts}

-- The disk in memory, the disk below, the failures so far (at 2 ^ 64 - 1 they stay), and whether the mirror is lost.
pub record Mirror (D : Type 0) : Type 0 where
  pub memory : Memory
  pub below : D
  pub failures : ℕ
  pub lost : Bool

-- the mirror with these parts
abbrev pub mirror_of : {D : Type 0} → Memory → D → ℕ → Bool → Mirror D
mirror_of memory below failures lost = record { memory = memory; below = below; failures = failures; lost = lost }

-- the mirror as a disk: the disk in memory, with the mirror's own count of failures
abbrev pub mirror_state : {D : Type 0} → Mirror D → DiskState
mirror_state mirror = with_failures (state_of mirror.memory) mirror.failures

-- the laws of a disk
pub counts_mirrored : {D : Type 0} (mirror : Mirror D) (t : ℕ) (bytes : List ℕ)
    → CountsNow (mirror_state mirror) t bytes
counts_mirrored mirror t bytes =
    counts_under (state_of mirror.memory) mirror.failures t bytes (counts mirror.memory t bytes)

pub only_mirrored : {D : Type 0} (mirror : Mirror D) (bytes : List ℕ) → OnlyNow (mirror_state mirror) bytes
only_mirrored mirror bytes = only_under (state_of mirror.memory) mirror.failures bytes (only mirror.memory bytes)

-- What the calls of the disk below make of memory, and whether the mirror is lost then. `first` is the disk below as
-- it was read when the mirror was made.
pub data Makes {D : Type 0} (bound : Ghosts D) (first : D) : D → Memory → Bool → Type 0 where
  -- all of it was read
  begun : (below : D) (before bytes : List ℕ) → bound.own_read first below 0 before bytes (Ok tt)
      → Makes bound first below (fresh bytes) false
  -- a write succeeded
  wrote : (old new : D) (memory : Memory) (at : ℕ) (bytes : List ℕ)
      → at + length bytes ≤ length memory.present.reading
      → Makes bound first old memory false → bound.own_write old new at bytes (Ok tt)
      → Makes bound first new (written at bytes memory) false
  -- a write failed, and a read of its range gave what the disk has there
  found : (old mid new : D) (memory : Memory) (at : ℕ) (bytes before left : List ℕ)
      → at + length bytes ≤ length memory.present.reading → length left ≡ length bytes
      → Makes bound first old memory false → bound.own_write old mid at bytes (Err record {})
      → bound.own_read mid new at before left (Ok tt) → Makes bound first new (written at left memory) false
  -- a write failed, and the read of its range too: memory has what that left in the range
  unread : (old mid new : D) (memory : Memory) (at : ℕ) (bytes before left : List ℕ)
      → at + length bytes ≤ length memory.present.reading → length left ≡ length bytes
      → Makes bound first old memory false → bound.own_write old mid at bytes (Err record {})
      → bound.own_read mid new at before left (Err record {}) → Makes bound first new (written at left memory) true
  -- a sync succeeded
  settled : (old new : D) (memory : Memory) → Makes bound first old memory false → bound.own_sync old new (Ok tt)
      → Makes bound first new (synced memory) false
  -- a sync failed
  unsettled : (old new : D) (memory : Memory) → Makes bound first old memory false
      → bound.own_sync old new (Err record {})
      → Makes bound first new memory true
  -- a write of a lost mirror asks nothing of the disk below
  ignored : (below : D) (memory : Memory) (at : ℕ) (bytes : List ℕ)
      → at + length bytes ≤ length memory.present.reading
      → Makes bound first below memory true → Makes bound first below (written at bytes memory) true

-- Each place that isn't loose in memory isn't loose on the honest disk below, and has the same byte there.
abbrev pub Covers : DiskState → DiskState → Type 0
Covers below memory = (i : ℕ) → i < length memory.reading → ¬ (memory.loose i)
    → (¬ (below.loose i)) × (get_or below.reading i 0 ≡ get_or memory.reading i 0)

-- An honest disk below, and what memory shows of it: unless the mirror is lost, every byte.
pub record Shows (below memory : DiskState) (lost : Bool) : Type 0 where
  pub covers : Covers below memory
  pub same : lost ≡ false → (i : ℕ) → i < length memory.reading
      → get_or below.reading i 0 ≡ get_or memory.reading i 0

-- Whatever a crash since moment s may have left of the disk below, a crash since moment t may have left of the mirror.
pub record Follows (below : DiskState) (s : ℕ) (mirror : DiskState) (t : ℕ) : Type 0 where
  pub later_below : s ≤ below.moment
  pub later : t ≤ mirror.moment
  pub leaves : (bytes : List ℕ) → below.left_since s bytes → mirror.left_since t (take (length mirror.reading) bytes)

-- from an earlier moment on, over an honest disk below
abbrev pub FollowsSince : {D : Type 0} → Ghosts D → Mirror D → Mirror D → Type 0
FollowsSince bound earlier now =
    Follows (bound.state now.below) (bound.state earlier.below).moment (mirror_state now) (mirror_state earlier).moment

-- The calls of the disk below since the mirror was made: they make what memory shows, and a crash at any moment since
-- then left of an honest disk below only what it may have left of the mirror.
pub record History {D : Type 0} (bound : Ghosts D) (mirror : Mirror D) : Type 0 where
  pub first : D
  pub makes : Makes bound first mirror.below mirror.memory mirror.lost
  pub follows : bound.honest mirror.below
      → Follows (bound.state mirror.below) (bound.state first).moment (mirror_state mirror) 0

-- what is true of every mirror
pub record IsMirror {D : Type 0} (bound : Ghosts D) (mirror : Mirror D) : Type 0 where
  pub fits : length mirror.memory.present.reading ≤ bound.size mirror.below
  pub last : mirror.failures < 2 ^ 64
  pub shows : bound.honest mirror.below → Shows (bound.state mirror.below) (state_of mirror.memory) mirror.lost
  pub history : History bound mirror
