-- Why a profile is refused, in words (docs/reference/profile.md).
use Rattle.std.specs.Prelude.{◌≡◌, ◌++◌, ◌⊎◌, ℕ, List, [], Option, Ok, Err, IsUtf8, codes, decimal}
use Rattle.std.specs.Str.Lossy.{utf8_valid_len}
use Rattle.toml.specs.Data.{Members}
use Rattle.toml.specs.Errors.{span_start}
use Rattle.toml.specs.Parse.{parse_document}
use Rattle.pos_profile.specs.Entries.{Contents}
use Rattle.pos_profile.specs.Kinds.{categories_of}
use Rattle.pos_profile.specs.Numbers.{key_of_number, least_of, most_of}
use Rattle.pos_profile.specs.Profiles.{FromDocument}
use Rattle.pos_profile.specs.Tables.{key_of}
use Rattle.pos_profile.specs.declared.mistake.Mistake.{Mistake}
use Rattle.pos_profile.specs.declared.mistake.Place.{Place}
use Rattle.pos_profile.specs.declared.mistake.Place.TheVariants.{Root, Listed}
use Rattle.pos_profile.specs.declared.mistake.Reason.{Reason}
use Rattle.pos_profile.specs.declared.mistake.Reason.TheVariants as reason
use Rattle.pos_profile.specs.declared.number.NumberKey.{NumberKey}
use Rattle.pos_profile.specs.declared.optional.OptionalKey.{OptionalKey}
use Rattle.pos_profile.specs.declared.optional.OptionalKey.TheVariants.{Ring, Flaky, Record}
use Rattle.pos_program.specs.ProfileFiles.{Reads}
use Rattle.pos_program.specs.declared.profile_fault.ProfileFileFault.{ProfileFileFault}
use Rattle.pos_program.specs.declared.profile_fault.ProfileFileFault.TheVariants as fault
use Rattle.kijolvar.specs.Codes.{bad_profile, bad_text, no_memory, ok}
use Rattle.kijolvar.specs.Questions.{WritesNoText, WritesText}

-- where something isn't sound: nothing for the root, else the entry
abbrev pub place_text : Place → List ℕ
place_text Root = []
place_text (Listed role number) = key_of role ++ codes " " ++ decimal number ++ codes ": "

-- the range of a number
abbrev pub number_reason : NumberKey → List ℕ
number_reason key =
    key_of_number key ++ codes " must be " ++ decimal (least_of key) ++ codes " to " ++ decimal (most_of key)

-- the values of an optional key
abbrev pub option_reason : OptionalKey → List ℕ
option_reason Ring = codes "ring must be true or false"
option_reason Flaky = codes "flaky must be an array of two numbers, each 0 to 1000000"
option_reason Record = codes "record must be true or false"

-- what isn't sound there
abbrev pub reason_text : Reason → List ℕ
reason_text (reason.NotAnArray role) = key_of role ++ codes " must be an array of tables"
reason_text (reason.UnknownKey key) = codes "unknown key: " ++ key
reason_text reason.NotATable = codes "must be a table"
reason_text (reason.BadCategory role) = codes "category must be " ++ categories_of role
reason_text reason.BadName = codes "name must be 1 to 16 letters, digits or hyphens"
reason_text (reason.BadNumber key) = number_reason key
reason_text (reason.BadOption key) = option_reason key
reason_text reason.SecondHardTotals = codes "a second device of category HardTotals"

-- the first thing in a profile that isn't sound
abbrev pub mistake_text : Mistake → List ℕ
mistake_text mistake = place_text mistake.place ++ reason_text mistake.reason

-- why a document isn't a profile, or a text no document: what reads TOML says the latter in its own words
abbrev pub IsReason : ProfileFileFault → List ℕ → Type 0
IsReason (fault.NotToml line error) text = (words : List ℕ) × (text ≡ codes "not TOML: " ++ words)
IsReason (fault.Unsound mistake) text = text ≡ mistake_text mistake
IsReason (fault.Duplicate name) text = text ≡ codes "two devices have the name " ++ name
IsReason other text = ⊥

-- the place where a text stops being TOML; what isn't sound in a document has none
abbrev pub IsPlace : ProfileFileFault → (at_before at : ℕ) → Type 0
IsPlace (fault.NotToml line error) at_before at = at ≡ span_start error
IsPlace other at_before at = at ≡ at_before

-- the code for it
abbrev pub refusal_code : ProfileFileFault → ℕ
refusal_code (fault.NotToml line error) = bad_text
refusal_code other = bad_profile

-- A refusal is told, with its place if it has one.
pub record WritesRefusal (why : ProfileFileFault) (at_before at : ℕ) (before after : List ℕ) (needed code : ℕ)
    : Type 0 where
  pub told : List ℕ
  pub reason : IsReason why told
  pub place : IsPlace why at_before at
  pub tells : WritesText told before after needed (refusal_code why) code

-- a refusal is told, or there was no memory for its words
abbrev pub AnswersRefusal : ProfileFileFault → (at_before at : ℕ) (before after : List ℕ)
    (needed_before needed code : ℕ) → Type 0
AnswersRefusal why at_before at before after needed_before needed code =
    WritesNoText at_before at before after needed_before needed code no_memory
    ⊎ WritesRefusal why at_before at before after needed code

-- what is told of a document: that it is a profile, or why it isn't
abbrev pub AnswersDocument : Option Members → (at_before at : ℕ) (before after : List ℕ)
    (needed_before needed code : ℕ) → Type 0
AnswersDocument document at_before at before after needed_before needed code =
    ((contents : Contents) × FromDocument document (Ok contents)
    × WritesNoText at_before at before after needed_before needed code ok)
    ⊎ ((why : ProfileFileFault) × Reads document (Err why)
    × AnswersRefusal why at_before at before after needed_before needed code)

-- the bytes aren't UTF-8, from this place on
pub record WritesNoUtf8 (bytes : List ℕ) (at : ℕ) (before after : List ℕ) (needed code : ℕ) : Type 0 where
  pub no_text : ¬ (IsUtf8 bytes)
  pub place : at ≡ utf8_valid_len bytes
  pub tells : WritesText (codes "not UTF-8") before after needed bad_text code

-- What is told of the bytes of a profile: that none is the built-in one, why they are refused, or that they aren't.
abbrev pub AnswersMistake : List ℕ → (at_before at : ℕ) (before after : List ℕ) (needed_before needed code : ℕ)
    → Type 0
AnswersMistake [] at_before at before after needed_before needed code =
    WritesNoText at_before at before after needed_before needed code ok
AnswersMistake bytes at_before at before after needed_before needed code =
    WritesNoUtf8 bytes at before after needed code
    ⊎ (IsUtf8 bytes × AnswersDocument (parse_document bytes) at_before at before after needed_before needed code)
