use Rattle.std.proofs.Common.{map, take}
use Rattle.std.specs.Prelude.{string_bytes}
use Rattle.pos_shell.specs.Trials.{AreTried}
use Rattle.pos_shell.proofs.TrialLemmas.{in_memory}
use Rattle.pos_shell.proofs.trials.try_scripts.Given as goal

-- the scripts so far were tried
abbrev pub invariant-loop-name : goal.invariant-loop-name
invariant-loop-name g l = AreTried g.S.FileSystem l.system in_memory l.profile
    (map (λ name. string_bytes name) (take l.name-index l.paths)) l.trials.items
