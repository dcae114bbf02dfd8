use Rattle.pos_run.proofs.spares.end_peripherals.Given as goal

abbrev pub decreases-loop-spare : goal.decreases-loop-spare
decreases-loop-spare g l = goal.left-loop-spare g l
