-- A run of writes that stay within one range of a disk.
use Rattle.std.specs.Prelude.{◌≡◌, ℕ, List, length, get_or}
use Rattle.pos_disk.specs.State.{DiskState, InRange}

-- bytes are as they were but for n places from `at` on
pub record SameBut (at n : ℕ) (was bytes : List ℕ) : Type 0 where
  pub same_length : length bytes ≡ length was
  pub elsewhere : (i : ℕ) → ¬ (InRange at n i) → get_or bytes i 0 ≡ get_or was i 0

-- The disk differs from what it was only within n places from `at` on, and only these are loose.
pub record IsWithin (was : List ℕ) (at n : ℕ) (disk : DiskState) : Type 0 where
  pub same : SameBut at n was disk.reading
  pub loose : (i : ℕ) → disk.loose i → InRange at n i
