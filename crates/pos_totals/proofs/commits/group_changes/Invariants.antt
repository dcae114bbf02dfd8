use Rattle.pos_totals.proofs.Common.{files_in, group_of, take, ◌≡◌}
use Rattle.pos_totals.proofs.commits.group_changes.Given as goal

-- the changes so far
abbrev pub invariant-loop-change : goal.invariant-loop-change
invariant-loop-change l = l.group ≡ group_of (files_in l.files) (take l.change-index l.changes)
