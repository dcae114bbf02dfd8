-- A disk in memory, as contracts see it.
use Rattle.std.specs.Prelude.{◌≡◌, ◌⊎◌, ◌≤◌, ◌<◌, ◌++◌, ℕ, List, [], ◌∷◌, Bool, true, false, length, get_or, replicate}
use Rattle.std.specs.Prelude.{Ok}
use Rattle.pos_disk.specs.State.{DiskState, Answer, splice}
use Rattle.pos_disk.specs.declared.memory.Fill.{Fill}
use Rattle.pos_disk.specs.declared.memory.Fill.TheVariants.{Old, New, Byte}

-- what a disk in memory shows at one moment, and for each place whether it is loose
pub record Moment : Type 0 where
  pub reading : List ℕ
  pub loose : List Bool

-- The disk: what it is at present, the bytes at the last sync, and the moments before, the oldest first.
pub record Memory : Type 0 where
  pub present : Moment
  pub settled : List ℕ
  pub past : List Moment

-- a crash at this moment may leave these bytes
pub record LeftAt (moment : Moment) (bytes : List ℕ) : Type 0 where
  pub same_length : length bytes ≡ length moment.reading
  pub settled : (i : ℕ) → ¬ (get_or moment.loose i false ≡ true) → get_or bytes i 0 ≡ get_or moment.reading i 0

-- a crash at the moment with number t, or at some moment after it, may have left these bytes
abbrev pub LeftSince : List Moment → Moment → ℕ → List ℕ → Type 0
LeftSince past present t bytes =
    ((k : ℕ) × (t ≤ k) × (k < length past) × LeftAt (get_or past k present) bytes) ⊎ LeftAt present bytes

-- the disk in the terms of every disk; it never fails
abbrev pub state_of : Memory → DiskState
state_of disk = record {
  reading = disk.present.reading;
  loose = λ i. get_or disk.present.loose i false ≡ true;
  moment = length disk.past;
  left_since = LeftSince disk.past disk.present;
  failures = 0;
}

-- a disk with these bytes, at rest
abbrev pub fresh : List ℕ → Memory
fresh bytes = record {
  present = record { reading = bytes; loose = replicate (length bytes) false };
  settled = bytes;
  past = [];
}

-- bytes were written at a place
abbrev pub written : ℕ → List ℕ → Memory → Memory
written at bytes disk = record {
  present = record {
    reading = splice disk.present.reading at bytes;
    loose = splice disk.present.loose at (replicate (length bytes) true);
  };
  settled = disk.settled;
  past = disk.past ++ disk.present ∷ [];
}

-- what a read gives has settled
abbrev pub synced : Memory → Memory
synced disk = record (fresh disk.present.reading) { past = disk.past ++ disk.present ∷ [] }

-- at each place the byte of the first list where the place is loose, else that of the second
abbrev pub choose : List Bool → List ℕ → List ℕ → List ℕ
choose (true ∷ loose) (x ∷ xs) (y ∷ ys) = x ∷ choose loose xs ys
choose (false ∷ loose) (x ∷ xs) (y ∷ ys) = y ∷ choose loose xs ys
choose loose xs ys = []

-- what a crash leaves: the bytes at the last sync, what a read gives, or the latter with one byte at each loose place
abbrev pub filled : Fill → Memory → List ℕ
filled Old disk = disk.settled
filled New disk = disk.present.reading
filled (Byte byte) disk = choose disk.present.loose (replicate (length disk.present.reading) byte) disk.present.reading

-- a read of a disk in memory succeeds and leaves it as it is
abbrev pub MemoryReads : Memory → Memory → ℕ → List ℕ → List ℕ → Answer → Type 0
MemoryReads old new at before after answer = (answer ≡ Ok tt) × (new ≡ old)

-- a write succeeds and puts the bytes down
abbrev pub MemoryWrites : Memory → Memory → ℕ → List ℕ → Answer → Type 0
MemoryWrites old new at bytes answer = (answer ≡ Ok tt) × (new ≡ written at bytes old)

-- a sync succeeds and settles what was written
abbrev pub MemorySyncs : Memory → Memory → Answer → Type 0
MemorySyncs old new answer = (answer ≡ Ok tt) × (new ≡ synced old)
