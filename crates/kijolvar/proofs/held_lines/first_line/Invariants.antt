use Rattle.std.proofs.Common.{take, true, ◌≡◌}
use Rattle.pos_script.specs.LineBuffers.{have_no_feed}
use Rattle.kijolvar.proofs.held_lines.first_line.Given as goal

-- there is no line feed so far
abbrev pub invariant-loop-place : goal.invariant-loop-place
invariant-loop-place l = have_no_feed (take l.place l.text) ≡ true
