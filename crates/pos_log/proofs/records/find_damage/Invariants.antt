use Rattle.pos_log.proofs.Common.{BeginsWith, List, length, ℕ, ◌-◌}
use Rattle.pos_log.proofs.records.find_damage.Given as goal

abbrev pub invariant-loop-length : goal.invariant-loop-length
invariant-loop-length l = (groups : List (List ℕ)) × BeginsWith groups l.at l.span

abbrev pub decreases-loop-length : goal.decreases-loop-length
decreases-loop-length l = length l.span - l.at
