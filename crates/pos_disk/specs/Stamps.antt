-- How a disk in memory keeps its loose places and the bytes of the last sync.
use Rattle.std.specs.Prelude.{◌≡◌, ◌≢◌, ◌≤◌, ◌==◌, ℕ, List, Bool, length, map, get_or}
use Rattle.pos_disk.specs.State.{InRange}
use Rattle.pos_disk.specs.Memory.{Moment, Memory, choose}

-- the loose places are those that bear the present stamp
abbrev pub loose_by : ℕ → List ℕ → List Bool
loose_by stamp stamps = map (λ s. s == stamp) stamps

-- a disk with these bytes and stamps at one moment
abbrev pub moment_of : List ℕ → List ℕ → ℕ → Moment
moment_of bytes stamps stamp = record { reading = bytes; loose = loose_by stamp stamps }

-- the disk; of its saved bytes those at the loose places count
abbrev pub memory_of : List ℕ → List ℕ → List ℕ → ℕ → List Moment → Memory
memory_of bytes saved stamps stamp past = record {
  present = moment_of bytes stamps stamp;
  settled = choose (loose_by stamp stamps) saved bytes;
  past = past;
}

-- each place has its byte, its saved byte and its stamp, and no stamp is later than the present one
pub record IsKept (bytes saved stamps : List ℕ) (stamp : ℕ) : Type 0 where
  pub saved_length : length saved ≡ length bytes
  pub stamps_length : length stamps ≡ length bytes
  pub none_later : (i : ℕ) → get_or stamps i 0 ≤ stamp

-- each of n places from `at` on that doesn't bear this stamp has got the byte of the reading
pub record IsSaved (stamps : List ℕ) (stamp : ℕ) (bytes : List ℕ) (at n : ℕ) (old new : List ℕ) : Type 0 where
  pub same_length : length new ≡ length old
  pub saved : (i : ℕ) → InRange at n i → get_or stamps i 0 ≢ stamp → get_or new i 0 ≡ get_or bytes i 0
  pub kept : (i : ℕ) → InRange at n i → get_or stamps i 0 ≡ stamp → get_or new i 0 ≡ get_or old i 0
  pub elsewhere : (i : ℕ) → ¬ (InRange at n i) → get_or new i 0 ≡ get_or old i 0
