use Rattle.pos_dir.proofs.Common.{drop, flat_map, outcome_of_all, supplies_of, vec_capacity, ◌≡◌, ◌≤◌}
use Rattle.std.specs.Vec.Iter.{into_iter_items}
use Rattle.pos_dir.proofs.updates.apply_all.Given as goal

abbrev pub invariant-loop-change : goal.invariant-loop-change
invariant-loop-change l = record {
  outcome : outcome_of_all l.fn.limits l.files.items (drop l.change-index l.changes)
      ≡ outcome_of_all l.fn.limits l.fn.files.items l.fn.changes;
  supplied : into_iter_items l.left ≡ flat_map supplies_of (drop l.change-index l.changes);
  room : l.fn.limits.files ≤ vec_capacity l.files;
}
