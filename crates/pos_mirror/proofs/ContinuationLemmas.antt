-- What a crash leaves of a disk in memory that was written on.
use Rattle.pos_disk.proofs.Common.{List, Memory, arith, length, written, ℕ, ◌≤◌}
use Rattle.pos_disk.specs.Memory.{LeftSince}
use Rattle.pos_disk.proofs.CallLemmas.{keeps, longer}
use Rattle.pos_mirror.specs.Continuations.{Continues, and_write, no_more}

-- a crash leaves of what was there only what it may leave of what was written on it
pub left_within : (asked memory : Memory) → Continues asked memory → (t : ℕ) (c : List ℕ) → t ≤ length asked.past
    → LeftSince asked.past asked.present t c → (t ≤ length memory.past) × LeftSince memory.past memory.present t c
left_within asked _ no_more t c le left = (le, left)
left_within asked _ (and_write memory at bytes so_far) t c le left =
    let before = left_within asked memory so_far t c le left in (
      omega (arith, before.0, longer memory.past memory.present memory.present),
      keeps memory.past memory.present (written at bytes memory).present t c before.0 before.1,
    )
