-- The bytes in memory that a mirror shows.
use Rattle.std.specs.Prelude.{◌≡◌, ℕ, List, length}
use Rattle.pos_disk.specs.Memory.{Memory}

-- These bytes are what the disk in memory shows, and each is loose or not.
pub record IsShown (bytes : List ℕ) (memory : Memory) : Type 0 where
  pub same : memory.present.reading ≡ bytes
  pub each : length memory.present.loose ≡ length memory.present.reading
