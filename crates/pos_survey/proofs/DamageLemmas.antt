-- Where the bytes break a rule, they stand for damage.
use Rattle.std.proofs.Common.{◌≡◌, ℕ, List, [], ◌∷◌, ◌++◌, refl, sym, ◌∙◌, arith}
use Rattle.pos_dir.proofs.GroupLemmas.{one_group_spelling}
use Rattle.pos_dir.specs.Files.{IsDirectory}
use Rattle.pos_dir.specs.Spelling.{spelling}
use Rattle.pos_dir.specs.declared.file.File.{File}
use Rattle.pos_dir.specs.declared.file.Limits.{Limits}
use Rattle.pos_image.proofs.LogLemmas.{image_here}
use Rattle.pos_image.specs.Layout.{layout_of}
use Rattle.pos_image.specs.Slots.{IsCurrent}
use Rattle.pos_image.specs.Standing.{log_of}
use Rattle.pos_image.specs.declared.slot.Slot.{Slot}
use Rattle.pos_log.proofs.ReadLemmas.{none_held}
use Rattle.pos_log.proofs.RecordLemmas.{open_byte}
use Rattle.pos_log.specs.Records as log
use Rattle.pos_store.proofs.StandingLemmas.{one_end}
use Rattle.pos_store.proofs.RecoveryLemmas.{no_body_stands, no_log_stands, no_groups_stand}
use Rattle.pos_store.proofs.RecordLemmas.{refused_step}
use Rattle.pos_store.specs.Layouts.{limits_of}
use Rattle.pos_store.specs.Standing.{IsStep, Applies}
use Rattle.pos_survey.specs.Damages.{IsFlaw, StopsAt, StopsFor, HasNoFilesIn, HasLongIn, HasBase, HasBadRecord}
use Rattle.pos_survey.specs.Damages.{IsDamage, Breaks, log_begins}
use Rattle.pos_survey.specs.declared.fault.Rule.{Rule}
use Rattle.pos_survey.specs.declared.fault.Rule.TheVariants as rule
use Rattle.pos_survey.specs.declared.fault.SurveyFault.{SurveyFault}
use Rattle.pos_survey.specs.declared.fault.SurveyFault.TheVariants as fault

-- a body that spells no files
pub no_files : {bytes body : List ℕ} {slot : Slot} {sequence : ℕ} (cause : SurveyFault)
    → IsCurrent bytes slot body sequence → HasNoFilesIn body slot cause → Breaks bytes cause
no_files fault.NoMemory current none = tt
no_files fault.TooSmall current none = absurd none
no_files fault.Unformatted current none = absurd none
no_files {bytes} {body} {slot} {sequence} (fault.Damaged at (rule.NoFiles flaw)) current
    (none, (within, place_is, has)) = (
      no_body_stands bytes (layout_of slot) body sequence (image_here current).image none,
      record {
        slot = slot;
        body = body;
        sequence = sequence;
        current = current;
        none = none;
        within = within;
        place_is = place_is;
        has = has;
      },
    )
no_files (fault.Damaged at other) current none = absurd none

-- a text with a flaw is no step
no_step : {limits : Limits} {files : List File} {text : List ℕ} (broken : Rule) → IsFlaw limits files text broken
    → {next : List File} → IsStep limits files text next → ⊥
no_step rule.SameSequence flaw step = flaw
no_step rule.LongBody flaw step = flaw
no_step (rule.NoFiles why) flaw step = flaw
no_step rule.LongRecord flaw step = flaw
no_step rule.NoGroup flaw step = flaw (step.changes, step.group, step.spelled)
no_step rule.EmptyGroup flaw step = step.some (one_group_spelling step.changes [] step.group
    (record { count = omega arith; each = tt }) (sym step.spelled ∙ flaw))
no_step {limits} {files} {text} (rule.NotApplicable cause) (changes, group, spelled, refused) {next} step =
    refused_step limits files text changes cause group spelled refused next step

-- what goes on behind a text does so behind the files before it
goes_on : {limits : Limits} (base : List File) (before : List (List ℕ)) {text : List ℕ} (behind : List (List ℕ))
    (last : List File) → Applies limits base (before ++ text ∷ behind) last
    → (files : List File) × Applies limits base before files × ((next : List File) × IsStep limits files text next)
goes_on base [] behind last (next, step, more) = (base, refl, (next, step))
goes_on base (one ∷ before) behind last (next, step, more) =
    let (files, applied, goes) = goes_on next before behind last more in
    (files, (next, step, applied), goes)

-- records of which one breaks a rule aren't applied
pub none_applied : {limits : Limits} (base : List File) {texts : List (List ℕ)} {first : ℕ} (at : ℕ) (broken : Rule)
    → StopsAt limits base texts first at broken → (last : List File) → Applies limits base texts last → ⊥
none_applied {limits} base at broken stops last applies =
    let (files, applied, goes) = goes_on base stops.before stops.behind last (rw stops.texts_are at applies) in
    let (next, step) = goes in
    let same = one_end limits stops.before base files stops.files applied stops.applies in
    no_step broken stops.flaw (rw same at step)

-- the rules of a record are none of those of an image
bad_rule : {bytes : List ℕ} {at : ℕ} {broken : Rule} → HasBadRecord bytes at broken → IsDamage bytes at broken
bad_rule bad = let flaw = bad.stops.flaw in grind arith

module _ (bytes body : List ℕ) (slot : Slot) (base : List File) (sequence : ℕ)
    (current : IsCurrent bytes slot body sequence) (sound : IsDirectory (limits_of (layout_of slot)) base)
    (spelled : body ≡ spelling base) where
  has_base : HasBase bytes slot base sequence
  has_base = record { current = rw spelled at current; directory = sound }

  -- a record that doesn't fit
  pub long_record : (cause : SurveyFault) → HasLongIn (log_of bytes) slot cause → Breaks bytes cause
  long_record fault.NoMemory long = tt
  long_record fault.TooSmall long = absurd long
  long_record fault.Unformatted long = absurd long
  long_record (fault.Damaged at broken) (is, (within, place_is, breaks)) = rw is (
    no_log_stands bytes (layout_of slot) body sequence (image_here current).image
        (none_held breaks.groups within (log_of bytes) breaks.begins (open_byte _ breaks.gate) breaks.long),
    record {
      slot = slot;
      base = base;
      sequence = sequence;
      image = has_base;
      within = within;
      place_is = place_is;
      long = breaks;
    },
  )

  -- a record that breaks another rule
  pub bad_record : (texts : List (List ℕ)) → log.HoldsRecords texts (log_of bytes) → (cause : SurveyFault)
      → StopsFor (limits_of (layout_of slot)) base texts (log_begins slot) cause → Breaks bytes cause
  bad_record texts held fault.NoMemory stops = tt
  bad_record texts held fault.TooSmall stops = absurd stops
  bad_record texts held fault.Unformatted stops = absurd stops
  bad_record texts held (fault.Damaged at broken) stops = (
    no_groups_stand bytes (layout_of slot) body sequence base texts (image_here current).image sound spelled held
        (none_applied base at broken stops),
    bad_rule (record {
      slot = slot;
      base = base;
      sequence = sequence;
      image = has_base;
      texts = texts;
      held = held;
      stops = stops;
    }),
  )
