-- What a disk in memory may have been before it was written on.
use Rattle.std.specs.Prelude.{ℕ, List}
use Rattle.pos_disk.specs.Memory.{Memory, written}

-- writes alone lead from one disk in memory to another
pub data Continues (first : Memory) : Memory → Type 0 where
  no_more : Continues first first
  and_write : (memory : Memory) (at : ℕ) (bytes : List ℕ) → Continues first memory
      → Continues first (written at bytes memory)
