-- What can be had of damaged totals (docs/reference/tool.md, "salvage").
use Rattle.std.specs.Prelude.{◌≡◌, ◌++◌, ◌∷◌, ◌-◌, ℕ, List, [], length, true, false, Option, Some, None, Result, Ok}
use Rattle.std.specs.Prelude.{Err, codes, decimal, if◌then◌else◌, Bool, nat_lt, replicate, slice_set, ⊤, ◌&&◌, ◌+◌}
use Rattle.std.specs.Prelude.{◌⊎◌}
use Rattle.std.specs.Int.{to_be_bytes, w32, w64}
use Rattle.std.specs.declared.alloc.AllocError.{AllocError}
use Rattle.pos_disk.specs.State.{part, splice}
use Rattle.pos_dir.specs.Spelling.{spelling}
use Rattle.pos_image.specs.Layout.{disk_size, is_open, log_place, open_gate, start}
use Rattle.pos_image.specs.declared.layout.Layout.TheVariants.{Layout1}
use Rattle.pos_image.specs.declared.slot.Slot.TheVariants.{Second, Third, Fourth}
use Rattle.pos_survey.specs.Damages.{Breaks}
use Rattle.pos_survey.specs.Descriptions.{Describes}
use Rattle.pos_survey.specs.Words.{words_of}
use Rattle.pos_survey.specs.declared.fault.Rule.{Rule}
use Rattle.pos_survey.specs.declared.fault.Rule.TheVariants as rule
use Rattle.pos_survey.specs.declared.fault.SurveyFault.{SurveyFault}
use Rattle.pos_survey.specs.declared.fault.SurveyFault.TheVariants.{Damaged, NoMemory, Unformatted}
use Rattle.pos_survey.specs.declared.survey.Survey.{Survey}
use Rattle.pos_report.specs.Texts.{are_zero, joined}

-- where the slot begins in which a place is
abbrev pub slot_start : ℕ → ℕ
slot_start at =
    if nat_lt at 32768 then 0 else if nat_lt at 65536 then 32768 else if nat_lt at 196608 then 65536 else 196608

-- the gate of what breaks a rule at a place: of its slot, or of its record
abbrev pub gate_of : ℕ → Rule → ℕ
gate_of at rule.SameSequence = slot_start at
gate_of at rule.LongBody = slot_start at
gate_of at (rule.NoFiles flaw) = slot_start at
gate_of at other = at

-- bytes, with zero bytes behind them up to the length of totals
abbrev pub padded : List ℕ → List ℕ
padded bytes = bytes ++ replicate (disk_size - length bytes) 0

-- the rules that were broken, and where, the last one first
abbrev pub Found : Type 0
Found = List (ℕ × Rule)

-- bytes in which the gates were closed of what was found, the first one first
abbrev pub closed : Found → List ℕ → List ℕ
closed [] bytes = bytes
closed (found ∷ earlier) bytes = slice_set (closed earlier bytes) (gate_of found.0 found.1) 0

-- what is left out if the gate is closed of what breaks a rule: an image, or a record and all after it
abbrev pub left_out : Rule → List ℕ
left_out rule.SameSequence = codes "; this image is left out, and the one before it is used, if there is one\n"
left_out rule.LongBody = codes "; this image is left out, and the one before it is used, if there is one\n"
left_out (rule.NoFiles flaw) = codes "; this image is left out, and the one before it is used, if there is one\n"
left_out other = codes "; this and all later changes are left out\n"

-- a gate that is closed, and why
abbrev pub lost_line : ℕ → Rule → List ℕ
lost_line at broken = joined (codes "closed gate " ∷ decimal (gate_of at broken) ∷ codes ", broken at "
    ∷ decimal at ∷ codes ": " ∷ words_of broken ∷ left_out broken ∷ [])

-- where bytes were cut off, if they were
abbrev pub cut_line : List ℕ → List ℕ
cut_line source = if nat_lt (length source) disk_size then joined (codes "cut off at " ∷ decimal (length source)
    ∷ codes ": each byte that is missing counts as 0\n" ∷ []) else []

-- what was said, and a line for each gate that was closed
abbrev pub lost_text : List ℕ → Found → List ℕ
lost_text said [] = said
lost_text said (found ∷ earlier) = lost_text said earlier ++ lost_line found.0 found.1

-- each rule was broken there, by the bytes in which the gates of those before it were closed
abbrev pub AreBroken : Found → List ℕ → Type 0
AreBroken [] bytes = ⊤
AreBroken (found ∷ earlier) bytes =
    AreBroken earlier bytes × Breaks (closed earlier bytes) (Damaged found.0 found.1)

-- what may end a salvage without sound bytes: memory ran out, or the gates of all slots are closed. Damage never does,
-- since its gate can be closed; nor do too few bytes, which are padded.
abbrev pub EndsSalvage : SurveyFault → Type 0
EndsSalvage NoMemory = ⊤
EndsSalvage Unformatted = ⊤
EndsSalvage other = ⊥

-- what is found in bytes: nothing that is damaged, in sound totals; or this rule is broken there, and its gate is open
abbrev pub Finds : List ℕ → Result (Option (ℕ × Rule)) SurveyFault → Type 0
Finds bytes (Ok None) = (survey : Survey) × Describes bytes survey
Finds bytes (Ok (Some found)) =
    Breaks bytes (Damaged found.0 found.1) × (is_open bytes (gate_of found.0 found.1) ≡ true)
Finds bytes (Err fault) = Breaks bytes fault × EndsSalvage fault

-- what is said is as before, unless memory ran out
abbrev pub Says : SurveyFault → List ℕ → List ℕ → Type 0
Says NoMemory said told = ⊤
Says other said told = told ≡ said

-- what one step comes to: nothing is damaged; or something is, its open gate is closed, and a line says so
abbrev pub Steps : List ℕ → List ℕ → Result Bool SurveyFault → List ℕ → List ℕ → Type 0
Steps old said (Ok true) new told = ((survey : Survey) × Describes new survey) × (new ≡ old) × (told ≡ said)
Steps old said (Ok false) new told = (at : ℕ) × (broken : Rule) × Breaks old (Damaged at broken)
    × (is_open old (gate_of at broken) ≡ true) × (new ≡ slice_set old (gate_of at broken) 0)
    × (told ≡ said ++ lost_line at broken)
Steps old said (Err fault) new told = Breaks old fault × EndsSalvage fault × (new ≡ old) × Says fault said told

-- Gates were closed in bytes of what was damaged, and nothing else was changed; and behind what was said before there
-- is a line for each.
pub record IsClosed (old said new told : List ℕ) : Type 0 where
  pub found : Found
  pub broken : AreBroken found old
  pub new_is : new ≡ closed found old
  pub told_is : told ≡ lost_text said found

-- what closing gates comes to: sound bytes, or why there are none
abbrev pub Closes : List ℕ → List ℕ → Result (Unit {0}) SurveyFault → List ℕ → List ℕ → Type 0
Closes old said (Ok u) new told = IsClosed old said new told × ((survey : Survey) × Describes new survey)
Closes old said (Err fault) new told =
    ((lines : List ℕ) × IsClosed old said new lines × Says fault lines told) × Breaks new fault × EndsSalvage fault

-- the slot that begins at a place never had an image: its sequence is 0
unfoldable pub is_unused : List ℕ → ℕ → Bool
is_unused bytes at = are_zero (part (at + 1) 8 bytes)

-- the totals never had an image but their first one, and have changes behind that
abbrev pub has_first_log : List ℕ → Bool
has_first_log bytes = is_open bytes (log_place Layout1)
    && (is_unused bytes (start Second) && (is_unused bytes (start Third) && is_unused bytes (start Fourth)))

-- the image of new totals can be put again: no image is left, and there never was another
abbrev pub can_be_put : SurveyFault → List ℕ → Bool
can_be_put Unformatted bytes = has_first_log bytes
can_be_put other bytes = false

-- the image of new totals: an open gate, the sequence 1, and the body of no files, which has two bytes
abbrev pub first_image : List ℕ
first_image = open_gate ∷ (to_be_bytes w64 1 ++ (to_be_bytes w32 2 ++ spelling []))

-- bytes with that image in the first slot
abbrev pub with_first_image : List ℕ → List ℕ
with_first_image bytes = splice bytes 0 first_image

-- what is said of it
abbrev pub first_line : List ℕ
first_line = codes "put the image of new totals at 0: the file never had another; the changes behind it are kept\n"

-- what putting it comes to
abbrev pub PutsFirst : List ℕ → List ℕ → Result (Unit {0}) AllocError → List ℕ → List ℕ → Type 0
PutsFirst old said (Ok u) new told = (new ≡ with_first_image old) × (told ≡ said ++ first_line)
PutsFirst old said (Err want) new told = new ≡ old

-- Gates were closed until no image was left; the image of new totals was put, and gates were closed of what was damaged
-- then.
pub record IsRemade (old said new told : List ℕ) : Type 0 where
  pub left : List ℕ
  pub lines : List ℕ
  pub closes : IsClosed old said left lines
  pub fault : SurveyFault
  pub breaks : Breaks left fault
  pub can : can_be_put fault left ≡ true
  pub again : IsClosed (with_first_image left) (lines ++ first_line) new told

-- bytes are what is left of others, and behind what was said before is what was lost
abbrev pub IsLeft : List ℕ → List ℕ → List ℕ → List ℕ → Type 0
IsLeft old said new told = IsClosed old said new told ⊎ IsRemade old said new told

-- Why no sound bytes are made: memory ran out, or the gates of all slots of what is left are closed, and the image of
-- new totals can't be put again, or was. Damage is never why: it has an open gate, which is closed next.
pub record EndsAll (old said new : List ℕ) (fault : SurveyFault) : Type 0 where
  pub lines : List ℕ
  pub left : IsLeft old said new lines
  pub breaks : Breaks new fault
  pub ends : EndsSalvage fault
  pub cannot : (can_be_put fault new ≡ false) ⊎ IsRemade old said new lines

-- what making bytes sound comes to
abbrev pub MakesSound : List ℕ → List ℕ → Result (Unit {0}) SurveyFault → List ℕ → List ℕ → Type 0
MakesSound old said (Ok u) new told = IsLeft old said new told × ((survey : Survey) × Describes new survey)
MakesSound old said (Err fault) new told = EndsAll old said new fault

-- The bytes are sound, and what is left of the source; the text says where that was cut off, and what was lost.
pub record IsSalvaged (source bytes lost : List ℕ) : Type 0 where
  pub left : IsLeft (padded source) (cut_line source) bytes lost
  pub survey : Survey
  pub tells : Describes bytes survey

-- No sound bytes are made of the source, for this reason.
pub record IsUnsalvaged (source : List ℕ) (fault : SurveyFault) : Type 0 where
  pub bytes : List ℕ
  pub ends : EndsAll (padded source) (cut_line source) bytes fault
