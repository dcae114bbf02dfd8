use Rattle.pos_dir.proofs.Common.{drop, outcome_of_all}
use Rattle.pos_dir.proofs.OutlineLemmas.{IsStage}
use Rattle.pos_dir.proofs.outlines.check_within.Given as goal

abbrev pub invariant-loop-change : goal.invariant-loop-change
invariant-loop-change g l = IsStage l.fn.limits l.outlines.items (drop l.change-index l.change-items)
    (outcome_of_all l.fn.limits l.fn.files l.fn.group)
