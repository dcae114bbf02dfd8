use Rattle.pos_totals.proofs.Common.{tags_from, ◌≡◌}
use Rattle.pos_totals.proofs.handles.count_from.Given as goal

abbrev pub invariant-loop-place : goal.invariant-loop-place
invariant-loop-place l = l.tags.items ≡ tags_from l.first l.place
