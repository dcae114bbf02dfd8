use Rattle.std.proofs.Common.{length, ◌++◌, ◌≡◌}
use Rattle.pos_script.specs.Lines.{pieces}
use Rattle.pos_shell.specs.Paint.{painted, painted_lines}
use Rattle.pos_shell.proofs.paint.painted.Given as goal

abbrev pub invariant-loop-all : goal.invariant-loop-all
invariant-loop-all l = l.all.items ++ painted_lines l.before (pieces 10 l.left) ≡ painted l.text

abbrev pub decreases-loop-all : goal.decreases-loop-all
decreases-loop-all l = length l.left
