use Rattle.std.proofs.Common.{flat_map, take, ◌++◌, ◌≡◌}
use Rattle.pos_shell.specs.Trials.{trial_text}
use Rattle.pos_shell.proofs.trials.put_trials.Given as goal

abbrev pub invariant-loop-trial : goal.invariant-loop-trial
invariant-loop-trial l = l.text.items ≡ l.fn.text.items ++ flat_map trial_text (take l.trial-index l.trials)
