-- One device fewer is left.
use Rattle.pos_counter_tests.proofs.growths.end_drawers.Given as goal

abbrev pub decreases-loop-entry : goal.decreases-loop-entry
decreases-loop-entry l = goal.left-loop-entry l
