use Rattle.std.proofs.Common.{◌≡◌, take, drop}
use Rattle.pos_script.specs.Lines.{pieces}
use Rattle.pos_script.proofs.PieceLemmas.{front_onto}
use Rattle.pos_script.proofs.lines.find_byte.Given as goal

abbrev pub invariant-loop-place : goal.invariant-loop-place
invariant-loop-place l = pieces l.at l.text ≡ front_onto (take l.place l.text) (pieces l.at (drop l.place l.text))
