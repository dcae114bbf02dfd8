use Rattle.std.proofs.Common.{◌≡◌, ◌≤◌, true, take}
use Rattle.pos_script.specs.LineBuffers.{have_no_feed}
use Rattle.pos_script.proofs.line_buffer.find_feed.Given as goal

abbrev pub invariant-loop-place : goal.invariant-loop-place
invariant-loop-place l = (l.from ≤ l.place) × (have_no_feed (take l.place l.piece) ≡ true)
