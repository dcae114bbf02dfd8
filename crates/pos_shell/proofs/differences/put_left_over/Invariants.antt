use Rattle.std.proofs.Common.{length, ◌++◌, ◌≡◌}
use Rattle.pos_script.specs.Lines.{lines_of}
use Rattle.pos_shell.specs.Differences.{left_over}
use Rattle.pos_shell.proofs.differences.put_left_over.Given as goal

abbrev pub invariant-loop-answer : goal.invariant-loop-answer
invariant-loop-answer l =
    l.text.items ++ left_over l.name (lines_of l.left) ≡ l.fn.text.items ++ left_over l.name (lines_of l.wanted)

abbrev pub decreases-loop-answer : goal.decreases-loop-answer
decreases-loop-answer l = length l.left
