-- The laws of a disk whose past is a list of moments.
use Rattle.std.specs.Prelude.{ℕ, List}
use Rattle.std.proofs.Common.{inr, ⊎_elim, arith}
use Rattle.pos_disk.specs.State.{MayLeave, CountsNow, OnlyNow}
use Rattle.pos_disk.specs.Memory.{Memory, LeftAt, state_of}

-- what a crash may leave, said of the disk and of its present moment
pub to_moment : (disk : Memory) (bytes : List ℕ) → MayLeave (state_of disk) bytes → LeftAt disk.present bytes
to_moment disk bytes may = record { same_length = may.same_length; settled = may.settled }

pub from_moment : (disk : Memory) (bytes : List ℕ) → LeftAt disk.present bytes → MayLeave (state_of disk) bytes
from_moment disk bytes left = record { same_length = left.same_length; settled = left.settled }

-- the laws of a disk
pub counts : (disk : Memory) (t : ℕ) (bytes : List ℕ) → CountsNow (state_of disk) t bytes
counts disk t bytes le may = inr (to_moment disk bytes may)

pub only : (disk : Memory) (bytes : List ℕ) → OnlyNow (state_of disk) bytes
only disk bytes left =
    ⊎_elim (λ (k, from, to, was). absurd (omega (arith, from, to))) (λ now. from_moment disk bytes now) left
