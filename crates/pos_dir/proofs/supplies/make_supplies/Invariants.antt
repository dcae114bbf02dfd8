use Rattle.pos_dir.proofs.Common.{flat_map, supplies_of, take, ◌≡◌}
use Rattle.pos_dir.proofs.supplies.make_supplies.Given as goal

abbrev pub invariant-loop-change : goal.invariant-loop-change
invariant-loop-change l = l.supplies.items ≡ flat_map supplies_of (take l.change-index l.changes)
