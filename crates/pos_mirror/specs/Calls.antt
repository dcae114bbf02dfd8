-- What each call of a mirror asks of the disk below, and what it makes of the mirror.
use Rattle.std.specs.Prelude.{◌≡◌, ℕ, List, true, false, Result, Ok, Err, OnErr, OnOk, length, replicate}
use Rattle.pos_disk.specs.State.{Answer, Reads, part}
use Rattle.pos_disk.specs.Memory.{Memory, fresh, written, synced}
use Rattle.pos_disk.specs.Fuse.{counted, failures_after}
use Rattle.pos_disk.specs.Unkept.{is_fault}
use Rattle.pos_disk.specs.declared.device.Disk.{Ghosts}
use Rattle.pos_mirror.specs.declared.mirror.MirrorFault.{MirrorFault}
use Rattle.pos_mirror.specs.declared.mirror.MirrorFault.TheVariants as fault
use Rattle.pos_mirror.specs.Mirror.{Follows, Mirror, mirror_of, mirror_state}

-- the disk that a mirror is over, or that is returned
abbrev pub disk_of : {D : Type 0} → Result (Mirror D) (MirrorFault × D) → D
disk_of (Ok mirror) = mirror.below
disk_of (Err (why, disk)) = disk

-- the disk was synced, and then so many bytes of it were read, with this answer
pub record ReadsAll {D : Type 0} (bound : Ghosts D) (old new : D) (size : ℕ) (bytes : List ℕ) (answer : Answer)
    : Type 0 where
  pub mid : D
  pub synced : bound.own_sync old mid (Ok tt)
  pub read : bound.own_read mid new 0 (replicate size 0) bytes answer

-- Each answer to opening a mirror over so many bytes of a disk has its cause, and says what the disk was asked: a
-- sync, and then a read. Want of memory is found before both.
abbrev pub Opens : {D : Type 0} → Ghosts D → D → ℕ → Result (Mirror D) (MirrorFault × D) → Type 0
Opens bound below size (Ok mirror) =
    ReadsAll bound below mirror.below size mirror.memory.present.reading (Ok tt)
    × (length mirror.memory.present.reading ≡ size)
    × (mirror ≡ mirror_of (fresh mirror.memory.present.reading) mirror.below 0 false)
Opens bound below size (Err (fault.NoMemory, disk)) = disk ≡ below
Opens bound below size (Err (fault.Sync, disk)) = bound.own_sync below disk (Err record {})
Opens bound below size (Err (fault.Read, disk)) =
    (bytes : List ℕ) × ReadsAll bound below disk size bytes (Err record {})

-- A read of a mirror asks nothing of the disk below. It is a fault if the mirror is lost, and only then.
pub record MirrorReads {D : Type 0} (old new : Mirror D) (at : ℕ) (before after : List ℕ) (answer : Answer)
    : Type 0 where
  pub fault : is_fault answer ≡ old.lost
  pub untouched : old.lost ≡ true → after ≡ before
  pub same : new ≡ record old { failures = failures_after old.failures answer }

-- The range of a write that failed was read once from the disk below, and memory has what the read left in it: the
-- bytes there if the read succeeded, else any bytes.
pub record Rereads {D : Type 0} (bound : Ghosts D) (old new : D) (at n : ℕ) (memory after : Memory) (answer : Answer)
    : Type 0 where
  pub left : List ℕ
  pub same_length : length left ≡ n
  pub read : bound.own_read old new at (part at n memory.present.reading) left answer
  pub reads : bound.honest old → Reads (bound.state old) (bound.state new) at left answer
  pub shown : after ≡ written at left memory

-- A write of a mirror failed below: it made one write of the disk below, and then one read of the range.
pub record FailsBelow {D : Type 0} (bound : Ghosts D) (old new : Mirror D) (at : ℕ) (bytes : List ℕ) : Type 0 where
  pub mid : D
  pub asked : bound.own_write old.below mid at bytes (Err record {})
  pub again : Answer
  pub rereads : Rereads bound mid new.below at (length bytes) old.memory new.memory again
  pub counts : new.failures ≡ counted old.failures
  pub losing : new.lost ≡ is_fault again

-- over an honest disk below, the mirror leaves what a crash may have left of it, as before
pub record FollowsOn {D : Type 0} (bound : Ghosts D) (old new : Mirror D) : Type 0 where
  pub honest : bound.honest new.below
  pub follows : (s t : ℕ) → Follows (bound.state old.below) s (mirror_state old) t
      → Follows (bound.state new.below) s (mirror_state new) t

-- A write of a mirror is one write of the disk below. It succeeds if that did, and only then. A lost mirror asks
-- nothing of the disk below.
pub record MirrorWrites {D : Type 0} (bound : Ghosts D) (old new : Mirror D) (at : ℕ) (bytes : List ℕ)
    (answer : Answer) : Type 0 where
  pub lost : old.lost ≡ true → (answer ≡ Err record {})
      × (new ≡ record old { memory = written at bytes old.memory; failures = counted old.failures })
  pub done : OnOk answer (bound.own_write old.below new.below at bytes (Ok tt)
      × (new ≡ record old { memory = written at bytes old.memory; below = new.below }))
  pub failed : OnErr answer (old.lost ≡ false → FailsBelow bound old new at bytes)
  pub follows : bound.honest old.below → FollowsOn bound old new

-- what memory has after a sync of the disk below with this answer
abbrev pub settled_by : Answer → Memory → Memory
settled_by (Ok done) memory = synced memory
settled_by (Err fault) memory = memory

-- A sync of a mirror is one sync of the disk below, with the same answer. If that fails, the mirror is lost. A lost
-- mirror asks nothing of the disk below.
pub record MirrorSyncs {D : Type 0} (bound : Ghosts D) (old new : Mirror D) (answer : Answer) : Type 0 where
  pub lost : old.lost ≡ true → (answer ≡ Err record {}) × (new ≡ record old { failures = counted old.failures })
  pub asked : old.lost ≡ false → bound.own_sync old.below new.below answer
      × (new ≡ mirror_of (settled_by answer old.memory) new.below (failures_after old.failures answer)
      (is_fault answer))
  pub follows : bound.honest old.below → FollowsOn bound old new

-- some calls of a mirror, one after another
pub data Calls {D : Type 0} (bound : Ghosts D) (first : Mirror D) : Mirror D → Type 0 where
  none : Calls bound first first
  and_read : (old new : Mirror D) (at : ℕ) (before after : List ℕ) (answer : Answer) → Calls bound first old
      → MirrorReads old new at before after answer → Calls bound first new
  and_write : (old new : Mirror D) (at : ℕ) (bytes : List ℕ) (answer : Answer) → Calls bound first old
      → MirrorWrites bound old new at bytes answer → Calls bound first new
  and_sync : (old new : Mirror D) (answer : Answer) → Calls bound first old → MirrorSyncs bound old new answer
      → Calls bound first new
