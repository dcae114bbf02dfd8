use Rattle.std.proofs.Common.{◌≡◌, take}
use Rattle.std.specs.Prelude.{flat_map}
use Rattle.pos_report.specs.Texts.{explained}
use Rattle.pos_report.proofs.texts.explained.Given as goal

abbrev pub invariant-loop-code : goal.invariant-loop-code
invariant-loop-code l = l.text.items ≡ flat_map (explained l.word) (take l.code-index l.codes)
