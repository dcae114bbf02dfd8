-- What is answered to a question about the bytes of a totals file (docs/reference/tool.md).
use Rattle.std.specs.Prelude.{◌≡◌, ◌≢◌, ◌++◌, ℕ, Bool, true, false, List, [], Some, None, codes, ⊤}
use Rattle.hex.specs.Hex.{encode_lower}
use Rattle.pos_dir.specs.declared.file.File.{File}
use Rattle.pos_survey.specs.Damages.{Breaks}
use Rattle.pos_survey.specs.Descriptions.{Describes}
use Rattle.pos_survey.specs.Texts.{survey_text}
use Rattle.pos_survey.specs.declared.fault.SurveyFault.{SurveyFault}
use Rattle.pos_survey.specs.declared.fault.SurveyFault.TheVariants as fault
use Rattle.pos_survey.specs.declared.survey.Survey.{Survey}
use Rattle.pos_report.specs.Dump.{dump_text}
use Rattle.pos_report.specs.Files.{bytes_of}
use Rattle.pos_report.specs.Json.{IsJsonOf}
use Rattle.pos_report.specs.Texts.{broken_text, sound_text}
use Rattle.pos_report.specs.declared.answers.AnswerFault.{AnswerFault}
use Rattle.pos_report.specs.declared.answers.AnswerFault.TheVariants.{Totals, NoFile}
use Rattle.pos_report.specs.declared.question.Finding.{Finding}
use Rattle.pos_report.specs.declared.question.Finding.TheVariants.{Good, Nothing, Damaged}
use Rattle.pos_report.specs.declared.question.Question.{Question}
use Rattle.pos_report.specs.declared.question.Question.TheVariants.{Check, Files, Cat, Dump}

-- bytes as they are, or in hex and a line feed
abbrev pub printed : Bool → List ℕ → List ℕ
printed false bytes = bytes
printed true bytes = encode_lower bytes ++ codes "\n"

-- the text is the bytes of the file with a name
abbrev pub IsFilePrinted : List File → List ℕ → Bool → List ℕ → Type 0
IsFilePrinted files name hex text = (bytes : List ℕ) × (bytes_of files name ≡ Some bytes) × (text ≡ printed hex bytes)

-- why the bytes of the file with a name aren't printed: there is none
abbrev pub LacksFile : List File → List ℕ → AnswerFault → Type 0
LacksFile files name (Totals fault.NoMemory) = ⊤
LacksFile files name NoFile = bytes_of files name ≡ None
LacksFile files name other = ⊥

-- what is answered of sound totals
abbrev pub AnswersSound : Question → Survey → List ℕ → Type 0
AnswersSound (Check true) it text = text ≡ []
AnswersSound (Check false) it text = text ≡ sound_text it
AnswersSound (Files true) it text = IsJsonOf it text
AnswersSound (Files false) it text = text ≡ survey_text it
AnswersSound Dump it text = text ≡ dump_text it
AnswersSound (Cat name hex) it text = IsFilePrinted it.directory.files name.now hex text

-- why a question about sound totals isn't answered
abbrev pub RefusesSound : Question → Survey → AnswerFault → Type 0
RefusesSound (Cat name hex) it why = LacksFile it.directory.files name.now why
RefusesSound other it why = why ≡ Totals fault.NoMemory

-- what a check finds
abbrev pub finding_of : SurveyFault → Finding
finding_of (fault.Damaged at broken) = Damaged
finding_of other = Nothing

-- what is answered of bytes that are no sound totals, for this reason
abbrev pub AnswersBroken : Question → SurveyFault → List ℕ → Finding → List ℕ → Type 0
AnswersBroken (Check true) why bytes finding text = (finding ≡ finding_of why) × (text ≡ [])
AnswersBroken (Check false) why bytes finding text = (finding ≡ finding_of why) × (text ≡ broken_text why bytes)
AnswersBroken other why bytes finding text = ⊥

-- why a question about such bytes isn't answered
abbrev pub RefusesBroken : Question → SurveyFault → AnswerFault → Type 0
RefusesBroken (Check quiet) cause why = why ≡ Totals fault.NoMemory
RefusesBroken other cause why = why ≡ Totals cause

-- The answer to a question about bytes that are sound totals, which is told of a survey of them.
pub record IsAnswer (question : Question) (bytes text : List ℕ) : Type 0 where
  pub survey : Survey
  pub tells : Describes bytes survey
  pub answer : AnswersSound question survey text

-- What a check finds of bytes that break a rule. Want of memory is none.
pub record IsFound (question : Question) (bytes : List ℕ) (finding : Finding) (text : List ℕ) : Type 0 where
  pub why : SurveyFault
  pub is_rule : why ≢ fault.NoMemory
  pub breaks : Breaks bytes why
  pub answer : AnswersBroken question why bytes finding text

-- what is answered to a question about bytes: what was found, and a text
abbrev pub Answers : Question → List ℕ → Finding → List ℕ → Type 0
Answers question bytes Good text = IsAnswer question bytes text
Answers question bytes finding text = IsFound question bytes finding text

-- No file has the name that is asked for, in totals that are sound.
pub record IsLacking (question : Question) (bytes : List ℕ) : Type 0 where
  pub survey : Survey
  pub tells : Describes bytes survey
  pub lacks : RefusesSound question survey NoFile

-- a question isn't answered for this reason: a check is, but for want of memory
abbrev pub MayRefuse : Question → SurveyFault → Type 0
MayRefuse (Check quiet) cause = cause ≡ fault.NoMemory
MayRefuse other cause = ⊤

-- why a question about bytes isn't answered: they break a rule, or no file has the name; or there was no memory
abbrev pub Refuses : Question → List ℕ → AnswerFault → Type 0
Refuses question bytes NoFile = IsLacking question bytes
Refuses question bytes (Totals cause) = Breaks bytes cause × MayRefuse question cause
