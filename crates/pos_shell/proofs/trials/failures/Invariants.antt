use Rattle.std.proofs.Common.{take, ◌≡◌, ◌≤◌}
use Rattle.pos_shell.specs.Trials.{failures}
use Rattle.pos_shell.proofs.trials.failures.Given as goal

-- those so far that don't print what is wanted
abbrev pub invariant-loop-trial : goal.invariant-loop-trial
invariant-loop-trial l = (l.failed ≤ l.trial-index) × (l.failed ≡ failures (take l.trial-index l.trials))
