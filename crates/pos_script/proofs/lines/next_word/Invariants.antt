use Rattle.std.proofs.Common.{◌≡◌, ◌≤◌, length}
use Rattle.pos_script.specs.Lines.{words_of}
use Rattle.pos_script.proofs.lines.next_word.Given as goal

abbrev pub invariant-loop-left : goal.invariant-loop-left
invariant-loop-left l = (words_of l.line ≡ words_of l.left) × (length l.left ≤ length l.line)

abbrev pub decreases-loop-left : goal.decreases-loop-left
decreases-loop-left l = length l.left
