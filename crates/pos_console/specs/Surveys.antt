-- What is told of a totals file (docs/reference/console.md, "What a totals file holds").
use Rattle.std.specs.Prelude.{◌≡◌, ℕ, List}
use Rattle.pos_program.specs.declared.file_fault.FileFault.{FileFault}
use Rattle.pos_program.specs.declared.file_fault.FileFault.TheVariants as file
use Rattle.pos_survey.specs.Damages.{Breaks}
use Rattle.pos_survey.specs.Descriptions.{Describes}
use Rattle.pos_survey.specs.Texts.{survey_text}
use Rattle.pos_survey.specs.Words.{words_of}
use Rattle.pos_survey.specs.declared.fault.SurveyFault.{SurveyFault}
use Rattle.pos_survey.specs.declared.fault.SurveyFault.TheVariants as survey
use Rattle.pos_survey.specs.declared.survey.Survey.{Survey}

-- what a survey's fault is told as, of a file
abbrev pub PrintsBreak : SurveyFault → FileFault → Type 0
PrintsBreak survey.NoMemory cause = cause ≡ file.NoMemory
PrintsBreak survey.TooSmall cause = cause ≡ file.Short
PrintsBreak survey.Unformatted cause = cause ≡ file.Unformatted
PrintsBreak (survey.Damaged at broken) (file.Broken place words) = (place ≡ at) × (words.now ≡ words_of broken)
PrintsBreak (survey.Damaged at broken) other = ⊥

-- The text is that of a survey, which tells what the bytes hold.
pub record IsTold (bytes text : List ℕ) : Type 0 where
  pub survey : Survey
  pub tells : Describes bytes survey
  pub text_is : text ≡ survey_text survey

-- The bytes break a rule, which is told of the file, or there was no memory.
pub record IsBroken (bytes : List ℕ) (cause : FileFault) : Type 0 where
  pub fault : SurveyFault
  pub breaks : Breaks bytes fault
  pub told : PrintsBreak fault cause
