-- The rules of a disk, in words. docs/reference/console.md, "What a totals file holds".
use Rattle.std.specs.Prelude.{ℕ, List, codes}
use Rattle.pos_dir.specs.declared.flaw.Flaw.{Flaw}
use Rattle.pos_dir.specs.declared.flaw.Flaw.TheVariants as flaw
use Rattle.pos_survey.specs.declared.fault.Rule.{Rule}
use Rattle.pos_survey.specs.declared.fault.Rule.TheVariants as rule

-- a rule that a body breaks, in words
abbrev pub words_of_flaw : Flaw → List ℕ
words_of_flaw flaw.TooManyFiles = codes "the current body has too many files"
words_of_flaw flaw.TooManyBytes = codes "the files of the current body have too many bytes"
words_of_flaw flaw.BadName = codes "the current body has a bad name"
words_of_flaw flaw.NameTwice = codes "the current body has a name twice"
words_of_flaw flaw.BytesMissing = codes "bytes of the current body are missing"
words_of_flaw flaw.BytesLeft = codes "bytes of the current body are left over"

-- a rule that totals break, in words
abbrev pub words_of : Rule → List ℕ
words_of rule.SameSequence = codes "both slots are open with the same sequence"
words_of rule.LongBody = codes "the length of the current body is above the longest"
words_of (rule.NoFiles broken) = words_of_flaw broken
words_of rule.LongRecord = codes "a record doesn't end within the log"
words_of rule.NoGroup = codes "a record is no group of changes"
words_of rule.EmptyGroup = codes "a record has no changes"
words_of (rule.NotApplicable cause) = codes "the changes of a record don't fit the files before it"
