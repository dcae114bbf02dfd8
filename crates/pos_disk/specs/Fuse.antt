-- A disk that fails on demand, as contracts see it.
use Rattle.std.specs.Prelude.{◌≡◌, ◌⊎◌, ◌≤◌, ◌+◌, ◌-◌, ◌/◌, ◌^◌, ◌&&◌, ℕ, List, Bool, true, false, min, leb, ltb}
use Rattle.std.specs.Prelude.{length, take, get_or, Result, Ok, Err}
use Rattle.pos_disk.specs.State.{DiskState, Answer, MayLeave, CountsNow, OnlyNow, Elapses, InRange, Rises, Reads}
use Rattle.pos_disk.specs.State.{Writes, Syncs, splice}
use Rattle.pos_disk.specs.declared.device.DiskFault.{DiskFault}
use Rattle.pos_disk.specs.declared.device.Disk.{Ghosts}

-- The disk within, the schedule, the calls so far, and the failures so far; both counts stay at 2 ^ 64 - 1.
pub record Fuse (D : Type 0) : Type 0 where
  pub inner : D
  pub pass : ℕ
  pub fail : ℕ
  pub calls : ℕ
  pub failures : ℕ

-- the fuse with these parts
abbrev pub fuse_of : {D : Type 0} → D → ℕ → ℕ → ℕ → ℕ → Fuse D
fuse_of inner pass fail calls failures =
    record { inner = inner; pass = pass; fail = fail; calls = calls; failures = failures }

-- one more; the last value stays
abbrev pub counted : ℕ → ℕ
counted n = min (n + 1) (2 ^ 64 - 1)

-- Is the next call one that fails? The calls are numbered from 0.
abbrev pub is_blown : {D : Type 0} → Fuse D → Bool
is_blown fuse = leb fuse.pass fuse.calls && ltb (fuse.calls - fuse.pass) fuse.fail

-- the failures after one more call
abbrev pub failures_after : {T : Type 0} → ℕ → Result T DiskFault → ℕ
failures_after failures (Ok x) = failures
failures_after failures (Err fault) = counted failures

-- the fuse after one more call, which left the disk within like this
abbrev pub after_call : {D : Type 0} {T : Type 0} → Fuse D → D → Result T DiskFault → Fuse D
after_call fuse inner result =
    fuse_of inner fuse.pass fuse.fail (counted fuse.calls) (failures_after fuse.failures result)

-- the fuse as a disk: the disk within, with its own count of failures
abbrev pub with_failures : DiskState → ℕ → DiskState
with_failures disk failures = record {
  reading = disk.reading;
  loose = disk.loose;
  moment = disk.moment;
  left_since = disk.left_since;
  failures = failures;
}

-- Any bytes were written within n places from `at` on, which are loose now; the rest stayed as it was.
pub record Spoils (old new : DiskState) (at n : ℕ) : Type 0 where
  pub same_length : length new.reading ≡ length old.reading
  pub elsewhere : (i : ℕ) → ¬ (InRange at n i) → get_or new.reading i 0 ≡ get_or old.reading i 0
  pub loose : (i : ℕ) → new.loose i → old.loose i ⊎ InRange at n i
  pub reached : (i : ℕ) → old.loose i ⊎ InRange at n i → new.loose i
  pub time : Elapses old new

-- Places were made loose, and their bytes stayed unless the disk failed.
pub record Loosens (old new : DiskState) (at n : ℕ) : Type 0 where
  pub spoils : Spoils old new at n
  pub later : old.failures ≤ new.failures
  pub kept : ¬ (Rises old.failures new.failures) → new.reading ≡ old.reading

-- The first half of the bytes was put down, the odd one aside, unless the disk within failed; the whole range is loose.
pub record PutsHalf (old new : DiskState) (at : ℕ) (bytes : List ℕ) : Type 0 where
  pub spoils : Spoils old new at (length bytes)
  pub later : old.failures ≤ new.failures
  pub half : ¬ (Rises old.failures new.failures) → new.reading ≡ splice old.reading at (take (length bytes / 2) bytes)

-- the fuse as a disk
abbrev pub fuse_state : {D : Type 0} → Ghosts D → Fuse D → DiskState
fuse_state bound fuse = with_failures (bound.state fuse.inner) fuse.failures

-- what a crash leaves of the fuse is what it leaves of the disk within
pub may_under : (disk : DiskState) (failures : ℕ) (bytes : List ℕ) → MayLeave disk bytes
    → MayLeave (with_failures disk failures) bytes
may_under disk failures bytes may = record { same_length = may.same_length; settled = may.settled }

pub may_within : (disk : DiskState) (failures : ℕ) (bytes : List ℕ) → MayLeave (with_failures disk failures) bytes
    → MayLeave disk bytes
may_within disk failures bytes may = record { same_length = may.same_length; settled = may.settled }

-- so the laws of a disk hold of the fuse where they hold of the disk within
pub counts_under : (disk : DiskState) (failures t : ℕ) (bytes : List ℕ) → CountsNow disk t bytes
    → CountsNow (with_failures disk failures) t bytes
counts_under disk failures t bytes counts le may = counts le (may_within disk failures bytes may)

pub only_under : (disk : DiskState) (failures : ℕ) (bytes : List ℕ) → OnlyNow disk bytes
    → OnlyNow (with_failures disk failures) bytes
only_under disk failures bytes only left = may_under disk failures bytes (only left)

-- what a call of a fuse over an honest disk does
abbrev pub HonestReads : {D : Type 0} → Ghosts D → Fuse D → Fuse D → ℕ → List ℕ → Answer → Type 0
HonestReads bound old new at out answer =
    bound.honest old.inner → Reads (fuse_state bound old) (fuse_state bound new) at out answer

abbrev pub HonestWrites : {D : Type 0} → Ghosts D → Fuse D → Fuse D → ℕ → List ℕ → Answer → Type 0
HonestWrites bound old new at bytes answer =
    bound.honest old.inner → Writes (fuse_state bound old) (fuse_state bound new) at bytes answer

abbrev pub HonestSyncs : {D : Type 0} → Ghosts D → Fuse D → Fuse D → Answer → Type 0
HonestSyncs bound old new answer =
    bound.honest old.inner → Syncs (fuse_state bound old) (fuse_state bound new) answer

-- a call that fails asks nothing of the disk within
abbrev pub IsRefused : {D : Type 0} → Fuse D → Fuse D → Answer → Type 0
IsRefused old new answer = (answer ≡ Err record {}) × (new.inner ≡ old.inner)

-- A read through a fuse: one that fails asks nothing of the disk within, and any other is one read of it.
pub record FuseReads {D : Type 0} (bound : Ghosts D) (old new : Fuse D) (at : ℕ) (before after : List ℕ)
    (answer : Answer) : Type 0 where
  pub counts : new ≡ after_call old new.inner answer
  pub blown : is_blown old ≡ true → IsRefused old new answer × (after ≡ before)
  pub passed : is_blown old ≡ false → bound.own_read old.inner new.inner at before after answer
  pub reads : is_blown old ≡ false → bound.honest old.inner
      → Reads (bound.state old.inner) (bound.state new.inner) at after answer

-- A write through a fuse: one that fails puts down half, and any other is one write of the disk within.
pub record FuseWrites {D : Type 0} (bound : Ghosts D) (old new : Fuse D) (at : ℕ) (bytes : List ℕ) (answer : Answer)
    : Type 0 where
  pub counts : new ≡ after_call old new.inner answer
  pub fails : is_blown old ≡ true → answer ≡ Err record {}
  pub blown : is_blown old ≡ true → bound.honest old.inner
      → PutsHalf (bound.state old.inner) (bound.state new.inner) at bytes
  pub passed : is_blown old ≡ false → bound.own_write old.inner new.inner at bytes answer
  pub writes : is_blown old ≡ false → bound.honest old.inner
      → Writes (bound.state old.inner) (bound.state new.inner) at bytes answer

-- A sync through a fuse: one that fails asks nothing of the disk within, and any other is one sync of it.
pub record FuseSyncs {D : Type 0} (bound : Ghosts D) (old new : Fuse D) (answer : Answer) : Type 0 where
  pub counts : new ≡ after_call old new.inner answer
  pub blown : is_blown old ≡ true → IsRefused old new answer
  pub passed : is_blown old ≡ false → bound.own_sync old.inner new.inner answer
  pub syncs : is_blown old ≡ false → bound.honest old.inner
      → Syncs (bound.state old.inner) (bound.state new.inner) answer
