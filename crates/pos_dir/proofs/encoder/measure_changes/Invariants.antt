use Rattle.pos_dir.proofs.Common.{change_limit, change_spelling, flat_map, length, take, ◌*◌, ◌≡◌, ◌≤◌}
use Rattle.pos_dir.proofs.encoder.measure_changes.Given as goal

abbrev pub invariant-loop-change : goal.invariant-loop-change
invariant-loop-change l = record {
  size : l.size ≡ length (flat_map change_spelling (take l.change-index l.changes));
  bound : l.size ≤ change_limit * l.change-index;
}
