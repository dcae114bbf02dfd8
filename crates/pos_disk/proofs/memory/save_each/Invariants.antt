use Rattle.pos_disk.proofs.Common.{IsSaved, ◌-◌, ◌≤◌}
use Rattle.pos_disk.proofs.memory.save_each.Given as goal

abbrev pub invariant-loop-place : goal.invariant-loop-place
invariant-loop-place l = record {
  from : l.at ≤ l.place;
  saved : IsSaved l.stamps l.stamp l.bytes l.at (l.place - l.at) l.initial.saved.items l.saved.items;
}
