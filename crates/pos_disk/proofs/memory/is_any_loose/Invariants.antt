use Rattle.pos_disk.proofs.Common.{list_any, take, ◌==◌, ◌≡◌}
use Rattle.pos_disk.proofs.memory.is_any_loose.Given as goal

abbrev pub invariant-loop-one : goal.invariant-loop-one
invariant-loop-one l = l.found ≡ list_any (λ s. s == l.stamp) (take l.one-index l.stamps)
