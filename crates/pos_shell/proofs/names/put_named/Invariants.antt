use Rattle.std.proofs.Common.{length, ◌+◌, ◌++◌, ◌≡◌, ◌≤◌}
use Rattle.pos_script.specs.Lines.{pieces}
use Rattle.pos_shell.specs.Names.{named}
use Rattle.pos_shell.proofs.names.put_named.Given as goal

abbrev pub invariant-loop-rest : goal.invariant-loop-rest
invariant-loop-rest l = (l.place + length l.left ≤ length l.answer) × (l.text.items ++ named l.codes l.numbers l.place
    (pieces 32 l.left) ≡ l.fn.text.items ++ named l.codes l.numbers 0 (pieces 32 l.answer))

abbrev pub decreases-loop-rest : goal.decreases-loop-rest
decreases-loop-rest l = length l.left
