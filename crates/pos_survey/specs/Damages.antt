-- Which rule of a totals disk its bytes break, and where. docs/reference/totals-file.md, "Opening and recovery".
use Rattle.std.specs.Prelude.{◌≡◌, ◌≤◌, ◌<◌, ◌+◌, ◌++◌, ℕ, List, [], ◌∷◌, length, true, false, Some, ⊤}
use Rattle.pos_dir.specs.Calls.{IsBody, IsGroupText}
use Rattle.pos_dir.specs.Changes.{IsGroup, fault_of}
use Rattle.pos_dir.specs.Files.{IsDirectory}
use Rattle.pos_dir.specs.Flaws.{HasFlaw}
use Rattle.pos_dir.specs.declared.flaw.Flaw.{Flaw}
use Rattle.pos_dir.specs.Spelling as directory
use Rattle.pos_dir.specs.declared.change.Change.{Change}
use Rattle.pos_dir.specs.declared.file.File.{File}
use Rattle.pos_dir.specs.declared.file.Limits.{Limits}
use Rattle.pos_image.specs.Layout.{disk_size, longest, body_place, log_place, start, other, first_of, layout_of}
use Rattle.pos_image.specs.Layout.{layout_on, length_at}
use Rattle.pos_image.specs.Slots.{IsCurrent}
use Rattle.pos_image.specs.Standing.{is_tied, current_on, log_of}
use Rattle.pos_image.specs.declared.slot.Slot.{Slot}
use Rattle.pos_log.specs.Records as log
use Rattle.pos_store.specs.Layouts.{limits_of}
use Rattle.pos_store.specs.Standing.{Unformatted, Damaged, StandsFor, Applies}
use Rattle.pos_survey.specs.declared.fault.Rule.{Rule}
use Rattle.pos_survey.specs.declared.fault.Rule.TheVariants as rule
use Rattle.pos_survey.specs.declared.fault.SurveyFault.{SurveyFault}
use Rattle.pos_survey.specs.declared.fault.SurveyFault.TheVariants as fault

-- where the sequence and the length of a slot stand, and where its body and its log begin
abbrev pub sequence_place : Slot → ℕ
sequence_place slot = start slot + 1

abbrev pub length_place : Slot → ℕ
length_place slot = start slot + 9

abbrev pub body_begins : Slot → ℕ
body_begins slot = start slot + body_place

abbrev pub log_begins : Slot → ℕ
log_begins slot = start slot + log_place (layout_of slot)

-- a text breaks this rule of a record behind these files
abbrev pub IsFlaw : Limits → List File → List ℕ → Rule → Type 0
IsFlaw limits files text rule.NoGroup = ¬ (IsGroupText text)
IsFlaw limits files text rule.EmptyGroup = text ≡ directory.group_spelling []
IsFlaw limits files text (rule.NotApplicable cause) =
    (changes : List Change) × IsGroup changes × (text ≡ directory.group_spelling changes)
    × (fault_of limits files changes ≡ Some cause)
IsFlaw limits files text other = ⊥

-- why the text of a record at this place isn't applied
abbrev pub IsRefused : Limits → List File → List ℕ → ℕ → SurveyFault → Type 0
IsRefused limits files text place fault.NoMemory = ⊤
IsRefused limits files text place (fault.Damaged at broken) = (at ≡ place) × IsFlaw limits files text broken
IsRefused limits files text place other = ⊥

-- Of the records of a log that begins at a place, the one at this place breaks this rule: the groups of those before it
-- are applied, and its text is no group that is applicable then.
pub record StopsAt (limits : Limits) (base : List File) (texts : List (List ℕ)) (first at : ℕ) (broken : Rule)
    : Type 0 where
  pub before : List (List ℕ)
  pub text : List ℕ
  pub behind : List (List ℕ)
  pub files : List File
  pub texts_are : texts ≡ before ++ text ∷ behind
  pub place_is : at ≡ first + length (log.spelling before)
  pub applies : Applies limits base before files
  pub flaw : IsFlaw limits files text broken

-- why the texts of the records of a log that begins at a place aren't applied
abbrev pub StopsFor : Limits → List File → List (List ℕ) → ℕ → SurveyFault → Type 0
StopsFor limits base texts first fault.NoMemory = ⊤
StopsFor limits base texts first (fault.Damaged at broken) = StopsAt limits base texts first at broken
StopsFor limits base texts first other = ⊥

-- The current image of the bytes is in this slot, and its body spells these files.
pub record HasBase (bytes : List ℕ) (slot : Slot) (base : List File) (sequence : ℕ) : Type 0 where
  pub current : IsCurrent bytes slot (directory.spelling base) sequence
  pub directory : IsDirectory (limits_of (layout_of slot)) base

-- why the body of an image in this slot isn't read: it spells no files
abbrev pub HasNoFilesIn : List ℕ → Slot → SurveyFault → Type 0
HasNoFilesIn body slot fault.NoMemory = ⊤
HasNoFilesIn body slot (fault.Damaged at (rule.NoFiles flaw)) =
    ¬ (IsBody (limits_of (layout_of slot)) body)
    × ((within : ℕ) × (at ≡ body_begins slot + within) × HasFlaw (limits_of (layout_of slot)) body within flaw)
HasNoFilesIn body slot other = ⊥

-- why the records of a span in this slot aren't read: one doesn't fit
abbrev pub HasLongIn : List ℕ → Slot → SurveyFault → Type 0
HasLongIn span slot fault.NoMemory = ⊤
HasLongIn span slot (fault.Damaged at broken) =
    (broken ≡ rule.LongRecord) × ((within : ℕ) × (at ≡ log_begins slot + within) × log.BreaksAt span within)
HasLongIn span slot other = ⊥

-- The body of the current image spells no files, for this rule.
pub record HasNoFiles (bytes : List ℕ) (at : ℕ) (flaw : Flaw) : Type 0 where
  pub slot : Slot
  pub body : List ℕ
  pub sequence : ℕ
  pub current : IsCurrent bytes slot body sequence
  pub none : ¬ (IsBody (limits_of (layout_of slot)) body)
  pub within : ℕ
  pub place_is : at ≡ body_begins slot + within
  pub has : HasFlaw (limits_of (layout_of slot)) body within flaw

-- The log behind the current image has a record that doesn't fit.
pub record HasLongRecord (bytes : List ℕ) (at : ℕ) : Type 0 where
  pub slot : Slot
  pub base : List File
  pub sequence : ℕ
  pub image : HasBase bytes slot base sequence
  pub within : ℕ
  pub place_is : at ≡ log_begins slot + within
  pub long : log.BreaksAt (log_of bytes) within

-- The log behind the current image has a record that breaks this rule.
pub record HasBadRecord (bytes : List ℕ) (at : ℕ) (broken : Rule) : Type 0 where
  pub slot : Slot
  pub base : List File
  pub sequence : ℕ
  pub image : HasBase bytes slot base sequence
  pub texts : List (List ℕ)
  pub held : log.HoldsRecords texts (log_of bytes)
  pub stops : StopsAt (limits_of (layout_of slot)) base texts (log_begins slot) at broken

-- The bytes break this rule at this place, and none before it: those of the slots come first, then those of the body,
-- of the log and of its records, in their order.
abbrev pub IsDamage : List ℕ → ℕ → Rule → Type 0
IsDamage bytes at rule.SameSequence =
    (is_tied bytes (first_of (layout_on bytes)) ≡ true) × (at ≡ sequence_place (other (first_of (layout_on bytes))))
IsDamage bytes at rule.LongBody =
    ((is_tied bytes (first_of (layout_on bytes)) ≡ false)
    × (longest (layout_of (current_on bytes)) < length_at bytes (start (current_on bytes))))
    × (at ≡ length_place (current_on bytes))
IsDamage bytes at (rule.NoFiles flaw) = HasNoFiles bytes at flaw
IsDamage bytes at rule.LongRecord = HasLongRecord bytes at
IsDamage bytes at broken = HasBadRecord bytes at broken

-- The bytes stand for nothing, or for damage, and why.
abbrev pub Breaks : List ℕ → SurveyFault → Type 0
Breaks bytes fault.NoMemory = ⊤
Breaks bytes fault.TooSmall = StandsFor Unformatted bytes × (length bytes < disk_size)
Breaks bytes fault.Unformatted = StandsFor Unformatted bytes × (disk_size ≤ length bytes)
Breaks bytes (fault.Damaged at broken) = StandsFor Damaged bytes × IsDamage bytes at broken
