-- What a disk is at a moment, what its calls do, and what a crash may leave.
use Rattle.std.specs.Prelude.{◌≡◌, ◌↔◌, ◌⊎◌, ◌≤◌, ◌<◌, ◌^◌, ℕ, ◌+◌, List, ◌++◌, length, take, drop, get_or, Result}
use Rattle.std.specs.Prelude.{OnOk, OnErr}
use Rattle.pos_disk.specs.declared.device.DiskFault.{DiskFault}

-- what a read, a write or a sync answers
abbrev pub Answer : Type 0
Answer = Result (Unit {0}) DiskFault

-- An honest disk at one moment.
pub record DiskState : Type 1 where
  -- the bytes that a read gives
  pub reading : List ℕ
  -- the places that a write has reached since the last sync
  pub loose : ℕ → Type 0
  -- a number that doesn't fall
  pub moment : ℕ
  -- what a crash at some moment from that one on might have left
  pub left_since : ℕ → List ℕ → Type 0
  -- how many calls it has answered with a fault; at its last value it stays
  pub failures : ℕ

-- no place is loose
abbrev pub IsAtRest : DiskState → Type 0
IsAtRest disk = (i : ℕ) → ¬ (disk.loose i)

-- each of them is a byte
abbrev pub IsBytes : List ℕ → Type 0
IsBytes bytes = (i : ℕ) → get_or bytes i 0 < 256

-- A crash at this moment may leave these bytes.
pub record MayLeave (disk : DiskState) (bytes : List ℕ) : Type 0 where
  pub same_length : length bytes ≡ length disk.reading
  pub settled : (i : ℕ) → ¬ (disk.loose i) → get_or bytes i 0 ≡ get_or disk.reading i 0

-- place i is one of the n places from `at` on
abbrev pub InRange : ℕ → ℕ → ℕ → Type 0
InRange at n i = (at ≤ i) × (i < at + n)

-- old with these bytes at this place
abbrev pub splice : {A : Type 0} → List A → ℕ → List A → List A
splice old at bytes = take at old ++ bytes ++ drop (at + length bytes) old

-- the n bytes from a place on
abbrev pub part : ℕ → ℕ → List ℕ → List ℕ
part at n bytes = take n (drop at bytes)

-- the count rose, or it was at its last value
abbrev pub Rises : ℕ → ℕ → Type 0
Rises before now = (before < now) ⊎ (before + 1 ≡ 2 ^ 64)

-- Time goes on: a crash since t might have left what it might have left before, or what it may leave now.
pub record Elapses (old new : DiskState) : Type 0 where
  pub later : old.moment ≤ new.moment
  pub keeps : (t : ℕ) (bytes : List ℕ) → t ≤ old.moment → old.left_since t bytes → new.left_since t bytes
  pub nothing_else : (t : ℕ) (bytes : List ℕ) → t ≤ old.moment → new.left_since t bytes
      → old.left_since t bytes ⊎ MayLeave new bytes

-- the disk has failed as often as before
abbrev pub HasNotFailed : DiskState → DiskState → Type 0
HasNotFailed old new = new.failures ≡ old.failures

-- A fault is answered only where the disk has failed, and the disk fails only where its fault is answered. The count
-- never falls, and its last value is 2 ^ 64 - 1.
pub record HasCause {T : Type 0} (old new : DiskState) (result : Result T DiskFault) : Type 0 where
  pub later : old.failures ≤ new.failures
  pub last : new.failures < 2 ^ 64
  pub rises : OnErr result (Rises old.failures new.failures)
  pub same : OnOk result (HasNotFailed old new)

-- A read gave these bytes from a place on, where it succeeded. It writes and settles nothing.
pub record Reads {T : Type 0} (old new : DiskState) (at : ℕ) (out : List ℕ) (result : Result T DiskFault) : Type 0 where
  pub bytes : OnOk result (out ≡ part at (length out) old.reading)
  pub reading : new.reading ≡ old.reading
  pub loose : (i : ℕ) → new.loose i → old.loose i
  pub still_loose : (i : ℕ) → old.loose i → new.loose i
  pub time : Elapses old new
  pub cause : HasCause old new result

-- Bytes were written at a place: all of them where the write succeeded, else any bytes in their range.
-- The range is loose from the beginning of the write on, whatever its result.
pub record Writes {T : Type 0} (old new : DiskState) (at : ℕ) (bytes : List ℕ) (result : Result T DiskFault)
    : Type 0 where
  pub written : OnOk result (new.reading ≡ splice old.reading at bytes)
  pub same_length : length new.reading ≡ length old.reading
  pub elsewhere : (i : ℕ) → ¬ (InRange at (length bytes) i) → get_or new.reading i 0 ≡ get_or old.reading i 0
  pub loose : (i : ℕ) → new.loose i → old.loose i ⊎ InRange at (length bytes) i
  pub reached : (i : ℕ) → old.loose i ⊎ InRange at (length bytes) i → new.loose i
  pub time : Elapses old new
  pub cause : HasCause old new result

-- After a sync that succeeded nothing is loose. A failed one may have settled some places, all or none.
pub record Syncs {T : Type 0} (old new : DiskState) (result : Result T DiskFault) : Type 0 where
  pub at_rest : OnOk result (IsAtRest new)
  pub reading : new.reading ≡ old.reading
  pub loose : (i : ℕ) → new.loose i → old.loose i
  pub time : Elapses old new
  pub cause : HasCause old new result

-- A crash at any moment since old leaves bytes that have P.
pub record LeavesOnly (old new : DiskState) (P : List ℕ → Type 0) : Type 0 where
  pub later : old.moment ≤ new.moment
  pub each : (bytes : List ℕ) → new.left_since old.moment bytes → P bytes
  -- for a run that began earlier
  pub before : (t : ℕ) (bytes : List ℕ) → t ≤ old.moment → new.left_since t bytes → old.left_since t bytes ⊎ P bytes

-- what a crash may leave now is among what a crash since an earlier moment may have left
abbrev pub CountsNow : DiskState → ℕ → List ℕ → Type 0
CountsNow disk t bytes = t ≤ disk.moment → MayLeave disk bytes → disk.left_since t bytes

-- what a crash since this very moment may have left is among what a crash may leave now
abbrev pub OnlyNow : DiskState → List ℕ → Type 0
OnlyNow disk bytes = disk.left_since disk.moment bytes → MayLeave disk bytes

-- The disk was only looked at: a crash at any moment leaves what a crash before might have left.
pub record Watches (old new : DiskState) : Type 0 where
  pub reading : new.reading ≡ old.reading
  pub loose : (i : ℕ) → new.loose i → old.loose i
  pub any_moment : LeavesOnly old new (MayLeave old)

-- Nothing that is known of an honest disk has changed.
pub record IsSame (old new : DiskState) : Type 0 where
  pub reading : new.reading ≡ old.reading
  pub loose : (i : ℕ) → old.loose i ↔ new.loose i
  pub moment : new.moment ≡ old.moment
  pub left_since : (t : ℕ) (bytes : List ℕ) → old.left_since t bytes ↔ new.left_since t bytes
  pub failures : new.failures ≡ old.failures
