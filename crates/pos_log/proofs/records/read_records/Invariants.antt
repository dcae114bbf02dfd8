use Rattle.pos_log.proofs.Common.{BeginsWith, length, map, ◌-◌}
use Rattle.pos_log.proofs.records.read_records.Given as goal

abbrev pub invariant-loop-alloc : goal.invariant-loop-alloc
invariant-loop-alloc l = BeginsWith (map (λ g. g.items) l.groups.items) l.at l.span

abbrev pub decreases-loop-alloc : goal.decreases-loop-alloc
decreases-loop-alloc l = length l.span - l.at
