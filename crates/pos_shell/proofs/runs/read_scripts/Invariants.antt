use Rattle.std.proofs.Common.{take}
use Rattle.pos_shell.specs.Runs.{AreRead}
use Rattle.pos_shell.proofs.runs.read_scripts.Given as goal

-- the scripts so far were read
abbrev pub invariant-loop-path : goal.invariant-loop-path
invariant-loop-path g l = AreRead g.S.FileSystem l.system (take l.path-index l.paths) l.scripts.items
    (g.R.Source.taken l.fn.reader) (g.R.Source.taken l.reader)
