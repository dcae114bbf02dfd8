-- What a totals file holds, as JSON (docs/reference/tool.md, "files").
use Rattle.std.specs.Prelude.{◌≡◌, ◌++◌, ℕ, List, length, map, Option, Some, None, codes}
use Rattle.hex.specs.Hex.{encode_lower}
use Rattle.serde_json.specs.Data.{Data, null, number, unsigned, string, array, object, member, no_members}
use Rattle.serde_json.specs.Read.{read}
use Rattle.serde_json.specs.View.{items_of}
use Rattle.serde_json.specs.Written.{compact_text}
use Rattle.pos_dir.specs.declared.file.File.{File}
use Rattle.pos_image.specs.Layout.{layout_of, start}
use Rattle.pos_survey.specs.declared.survey.Survey.{Survey}
use Rattle.pos_report.specs.Texts.{layout_number}

-- a file: its bytes and its name in hex, and its size
abbrev pub file_data : List ℕ → List ℕ → Data
file_data name bytes = object (member (codes "hex") (string (encode_lower bytes))
    (member (codes "name") (string (encode_lower name))
    (member (codes "size") (number (unsigned (length bytes))) no_members)))

-- the files in index order
abbrev pub files_data : List File → Data
files_data files = array (items_of (map (λ file. file_data file.name file.bytes) files))

-- how many bytes the longest group has that fits after the records, if any fits
abbrev pub room_data : Option ℕ → Data
room_data None = null
room_data (Some room) = number (unsigned room)

-- all that a survey has
abbrev pub survey_data : Survey → Data
survey_data it = object (member (codes "files") (files_data it.directory.files)
    (member (codes "layout") (number (unsigned (layout_number (layout_of it.slot))))
    (member (codes "records") (number (unsigned it.records))
    (member (codes "room") (room_data it.room)
    (member (codes "sequence") (number (unsigned it.sequence))
    (member (codes "slot") (number (unsigned (start it.slot))) no_members))))))

-- The text is one line: the compact JSON of all that the survey has. It reads as just that.
pub record IsJsonOf (it : Survey) (text : List ℕ) : Type 0 where
  pub text_is : text ≡ compact_text (survey_data it) ++ codes "\n"
  pub reads : read (compact_text (survey_data it)) ≡ Some (survey_data it)
