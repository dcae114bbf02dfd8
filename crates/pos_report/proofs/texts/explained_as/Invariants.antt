use Rattle.std.proofs.Common.{◌≡◌, take}
use Rattle.std.specs.Prelude.{flat_map}
use Rattle.pos_report.specs.Texts.{explained_as}
use Rattle.pos_report.proofs.texts.explained_as.Given as goal

abbrev pub invariant-loop-code : goal.invariant-loop-code
invariant-loop-code l = l.text.items ≡ flat_map (explained_as l.kind l.word) (take l.code-index l.codes)
