use Rattle.std.proofs.Common.{◌≡◌, true, take}
use Rattle.pos_script.specs.LineBuffers.{are_plain}
use Rattle.pos_script.proofs.line_buffer.count_plain.Given as goal

abbrev pub invariant-loop-place : goal.invariant-loop-place
invariant-loop-place l = are_plain (take l.place l.piece) ≡ true
