use Rattle.std.proofs.Common.{◌≡◌, take}
use Rattle.pos_survey.specs.Texts.{shown}
use Rattle.pos_survey.proofs.text.show.Given as goal

abbrev pub invariant-loop-byte : goal.invariant-loop-byte
invariant-loop-byte l = l.text.items ≡ shown (take l.byte-index l.bytes)
