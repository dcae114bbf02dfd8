-- Totals that are made of a text (docs/reference/tool.md, "load").
use Rattle.std.specs.Prelude.{◌≡◌, ◌==◌, ◌-◌, ◌&&◌, ℕ, List, Bool, length, nat_le, true, false, ⊤}
use Rattle.pos_image.specs.Layout.{disk_size}
use Rattle.pos_survey.specs.Descriptions.{Describes}
use Rattle.pos_survey.specs.declared.survey.Survey.{Survey}
use Rattle.pos_report.specs.Dump.{dump_text}

-- the totals are as they are after each file was made by one change: they have the bytes of a totals file and no more,
-- at most a record a file, and a sequence that rose at most once a file
abbrev pub is_fresh : List ℕ → Survey → Bool
is_fresh bytes survey =
    let files = length survey.directory.files in
    (length bytes == disk_size) && (nat_le survey.records files && nat_le (survey.sequence - 1) files)

-- The bytes are those of sound totals that are fresh, and the text is a dump of what a survey tells of them.
pub record IsLoaded (text bytes : List ℕ) : Type 0 where
  pub survey : Survey
  pub tells : Describes bytes survey
  pub dumped : text ≡ dump_text survey
  pub fresh : is_fresh bytes survey ≡ true

-- whether a dump of bytes prints a text
abbrev pub Dumps : List ℕ → List ℕ → Bool → Type 0
Dumps bytes text true = IsLoaded text bytes
Dumps bytes text false = ⊤
