use Rattle.std.proofs.Common.{length, ◌+◌, ◌++◌, ◌≡◌, ◌≤◌}
use Rattle.pos_script.specs.Lines.{lines_of}
use Rattle.pos_shell.specs.Differences.{differences}
use Rattle.pos_shell.proofs.differences.differences.Given as goal

abbrev pub invariant-loop-line : goal.invariant-loop-line
invariant-loop-line l = (l.number + length l.left ≤ length l.script + 1)
    × (l.text.items ++ differences l.name l.number (lines_of l.left) (lines_of l.wanted) (lines_of l.found)
    ≡ differences l.name 1 (lines_of l.script) (lines_of l.fn.wanted) (lines_of l.fn.found))

abbrev pub decreases-loop-line : goal.decreases-loop-line
decreases-loop-line l = length l.left
