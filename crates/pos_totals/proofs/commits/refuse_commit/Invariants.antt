use Rattle.pos_totals.proofs.Common.{false, files_in, is_of_foreign, is_of_none, list_any, take, ◌≡◌}
use Rattle.pos_totals.proofs.commits.refuse_commit.Given as goal

-- the changes so far
abbrev pub invariant-loop-change : goal.invariant-loop-change
invariant-loop-change l = record {
  there : list_any (is_of_none (files_in l.files)) (take l.change-index l.changes) ≡ false;
  claimed : l.is_claimed ≡ list_any (is_of_foreign (files_in l.files) l.control) (take l.change-index l.changes);
}
