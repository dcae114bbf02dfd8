-- What is told of the bytes of a totals file (docs/reference/console.md, "What a totals file holds").
use Rattle.std.specs.Prelude.{◌≡◌, ◌⊎◌, ℕ, List}
use Rattle.pos_survey.specs.Damages.{Breaks}
use Rattle.pos_survey.specs.Descriptions.{Describes as Holds}
use Rattle.pos_survey.specs.Texts.{survey_text}
use Rattle.pos_survey.specs.Words.{words_of}
use Rattle.pos_survey.specs.declared.fault.Rule.{Rule}
use Rattle.pos_survey.specs.declared.fault.SurveyFault.{SurveyFault}
use Rattle.pos_survey.specs.declared.fault.SurveyFault.TheVariants as survey
use Rattle.pos_survey.specs.declared.survey.Survey.{Survey}
use Rattle.kijolvar.specs.Codes.{damaged, no_memory, ok, too_small, unformatted}
use Rattle.kijolvar.specs.Questions.{WritesNoText, WritesText}

-- The rule that the bytes break is told, and where.
pub record WritesDamage (place : ℕ) (rule : Rule) (at : ℕ) (before after : List ℕ) (needed code : ℕ) : Type 0 where
  pub place_told : at ≡ place
  pub tells : WritesText (words_of rule) before after needed damaged code

-- what is told of bytes that hold no totals, or of damaged ones
abbrev pub WritesBreak : SurveyFault → (at_before at : ℕ) (before after : List ℕ) (needed_before needed code : ℕ)
    → Type 0
WritesBreak survey.NoMemory at_before at before after needed_before needed code =
    WritesNoText at_before at before after needed_before needed code no_memory
WritesBreak survey.TooSmall at_before at before after needed_before needed code =
    WritesNoText at_before at before after needed_before needed code too_small
WritesBreak survey.Unformatted at_before at before after needed_before needed code =
    WritesNoText at_before at before after needed_before needed code unformatted
WritesBreak (survey.Damaged place rule) at_before at before after needed_before needed code =
    WritesDamage place rule at before after needed code

-- What the bytes hold is told, in the lines of a survey of them.
pub record WritesSurvey (bytes : List ℕ) (at_before at : ℕ) (before after : List ℕ) (needed code : ℕ) : Type 0 where
  pub survey : Survey
  pub holds : Holds bytes survey
  pub at_stays : at ≡ at_before
  pub tells : WritesText (survey_text survey) before after needed ok code

-- what is told of the bytes: what they hold, or which rule they break
abbrev pub AnswersSurvey : List ℕ → (at_before at : ℕ) (before after : List ℕ) (needed_before needed code : ℕ)
    → Type 0
AnswersSurvey bytes at_before at before after needed_before needed code =
    WritesSurvey bytes at_before at before after needed code
    ⊎ ((why : SurveyFault) × Breaks bytes why × WritesBreak why at_before at before after needed_before needed code)
