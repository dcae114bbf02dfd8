use Rattle.std.proofs.Common.{◌≡◌, ◌++◌, drop}
use Rattle.pos_wire.specs.ReplyLines.{input_lines}
use Rattle.pos_wire.proofs.reply_lines.push_inputs.Given as goal

-- what is written and what is left are the whole
abbrev pub invariant-loop-input : goal.invariant-loop-input
invariant-loop-input l =
    l.out.items ++ input_lines l.name (drop l.input-index l.inputs) ≡ l.fn.out.items ++ input_lines l.name l.inputs
