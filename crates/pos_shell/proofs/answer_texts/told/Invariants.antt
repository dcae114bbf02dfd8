use Rattle.std.proofs.Common.{length, ◌+◌, ◌++◌, ◌≡◌, ◌≤◌}
use Rattle.pos_script.specs.Lines.{lines_of}
use Rattle.pos_shell.specs.AnswerTexts.{told}
use Rattle.pos_shell.proofs.answer_texts.told.Given as goal

abbrev pub invariant-loop-line : goal.invariant-loop-line
invariant-loop-line l = (l.number + length l.left ≤ length l.script + 1) × (l.text.items ++ told l.style l.name l.number
    (lines_of l.left) (lines_of l.said) ≡ told l.style l.name 1 (lines_of l.script) (lines_of l.answers))

abbrev pub decreases-loop-line : goal.decreases-loop-line
decreases-loop-line l = length l.left
