use Rattle.std.proofs.Common.{◌≡◌, ◌++◌, take}
use Rattle.pos_survey.specs.Texts.{files_text}
use Rattle.pos_survey.proofs.text.put_files.Given as goal

abbrev pub invariant-loop-index : goal.invariant-loop-index
invariant-loop-index l = l.text.items ≡ l.fn.text.items ++ files_text (take l.index l.directory.files)
