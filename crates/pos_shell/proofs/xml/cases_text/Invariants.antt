use Rattle.std.proofs.Common.{flat_map, take, ◌≡◌}
use Rattle.pos_shell.specs.Xml.{case_text}
use Rattle.pos_shell.proofs.xml.cases_text.Given as goal

abbrev pub invariant-loop-trial : goal.invariant-loop-trial
invariant-loop-trial l = l.text.items ≡ flat_map case_text (take l.trial-index l.trials)
