-- What a check and an explanation print (docs/reference/tool.md).
use Rattle.std.specs.Prelude.{ℕ, ◌∷◌, ◌++◌, ◌||◌, ◌&&◌, Bool, List, [], length, if◌then◌else◌, bytes_eq, codes, decimal}
use Rattle.std.specs.Prelude.{flat_map, nat_eq, true, false}
use Rattle.std.specs.List.{list_all}
use Rattle.pos_image.specs.Layout.{layout_of}
use Rattle.pos_image.specs.declared.layout.Layout.{Layout}
use Rattle.pos_image.specs.declared.layout.Layout.TheVariants.{Layout1, Layout2}
use Rattle.pos_survey.specs.Words.{words_of}
use Rattle.pos_survey.specs.declared.fault.Rule.{Rule}
use Rattle.pos_survey.specs.declared.fault.SurveyFault.{SurveyFault}
use Rattle.pos_survey.specs.declared.fault.SurveyFault.TheVariants as fault
use Rattle.pos_survey.specs.declared.survey.Survey.{Survey}
use Rattle.pos_report.specs.declared.codes.Code.{Code}

-- the number of a layout
abbrev pub layout_number : Layout → ℕ
layout_number Layout1 = 1
layout_number Layout2 = 2

-- texts, one after another
abbrev pub joined : List (List ℕ) → List ℕ
joined parts = flat_map (λ part. part) parts

-- sound totals: how many of each there are
abbrev pub sound_text : Survey → List ℕ
sound_text it = joined (codes "sound: layout " ∷ decimal (layout_number (layout_of it.slot))
    ∷ codes ", sequence " ∷ decimal it.sequence ∷ codes ", records " ∷ decimal it.records
    ∷ codes ", files " ∷ decimal (length it.directory.files) ∷ codes "\n" ∷ [])

-- damaged totals: the place and the rule that is broken there, and what to do
abbrev pub damage_text : ℕ → Rule → List ℕ
damage_text at broken = joined (codes "damaged at byte " ∷ decimal at ∷ codes ": " ∷ words_of broken ∷ [])
    ++ codes "\nto do: copy the file first, and let no till open it; then restore a copy, else `kijolvar salvage` it\n"

-- whether bytes are all 0
abbrev pub are_zero : List ℕ → Bool
are_zero bytes = list_all (λ byte. nat_eq byte 0) bytes

-- fewer bytes than totals have, by whether they are all 0, and what to do: over zeros totals can be made in place
abbrev pub short_text : Bool → List ℕ
short_text true =
    codes "no totals: shorter than a totals file, which has 327680 bytes\nto do: is it the right file? "
    ++ codes "Restore a copy if it had totals; `kijolvar create FILE` makes new ones\n"
short_text false =
    codes "no totals: shorter than a totals file, which has 327680 bytes\nto do: is it the right file? "
    ++ codes "If it was cut off, restore a copy, else `kijolvar salvage` it; "
    ++ codes "for new totals move it away, then `kijolvar create FILE`\n"

-- bytes without totals, by whether they are all 0, and what to do
abbrev pub unformatted_text : Bool → List ℕ
unformatted_text true =
    codes "no totals: not formatted\nto do: is it the right file? "
    ++ codes "Restore a copy if it had totals; `kijolvar create FILE` makes new ones\n"
unformatted_text false =
    codes "no totals: not formatted, but its bytes aren't all 0\nto do: is it the right file? "
    ++ codes "Restore a copy if it had totals; for new totals move it away, then `kijolvar create FILE`\n"

-- bytes that are no sound totals, and what to do
abbrev pub broken_text : SurveyFault → List ℕ → List ℕ
broken_text (fault.Damaged at broken) bytes = damage_text at broken
broken_text fault.TooSmall bytes = short_text (are_zero bytes)
broken_text other bytes = unformatted_text (are_zero bytes)

-- a word is the name of a code, or its number
abbrev pub is_meant : List ℕ → Code → Bool
is_meant word code = bytes_eq word code.name.now || bytes_eq word (decimal code.number)

-- a word is the name or the number of a code of a kind
abbrev pub is_meant_as : List ℕ → List ℕ → Code → Bool
is_meant_as kind word code = bytes_eq kind code.kind.now && is_meant word code

-- a code: its name, its number and its kind, what it means, and what to do
abbrev pub code_text : Code → List ℕ
code_text code = joined (code.name.now ∷ codes " " ∷ decimal code.number ∷ codes ", " ∷ code.kind.now ∷ codes ": "
    ∷ code.meaning.now ∷ codes "\nto do: " ∷ code.action.now ∷ codes "\n" ∷ [])

-- what is printed of a code for a word
abbrev pub explained : List ℕ → Code → List ℕ
explained word code = if is_meant word code then code_text code else []

-- what is printed of a code for a word, if it is of a kind
abbrev pub explained_as : List ℕ → List ℕ → Code → List ℕ
explained_as kind word code = if is_meant_as kind word code then code_text code else []
