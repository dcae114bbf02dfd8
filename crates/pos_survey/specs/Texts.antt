-- What is told of a disk, as lines of text. docs/reference/console.md, "What a totals file holds".
use Rattle.std.specs.Prelude.{ℕ, ◌++◌, ◌&&◌, List, [], ◌∷◌, length, map, flat_map, nat_le, if◌then◌else◌, Option, Some}
use Rattle.std.specs.Prelude.{None, codes, decimal}
use Rattle.hex.specs.Hex.{encode_lower}
use Rattle.pos_dir.specs.declared.file.File.{File}
use Rattle.pos_image.specs.Layout.{start, layout_of}
use Rattle.pos_image.specs.declared.layout.Layout.{Layout}
use Rattle.pos_image.specs.declared.layout.Layout.TheVariants.{Layout1, Layout2}
use Rattle.pos_survey.specs.declared.survey.Survey.{Survey}

-- a word, a space and its value
abbrev pub line : List ℕ → List ℕ → List ℕ
line word value = word ++ (32 ∷ (value ++ 10 ∷ []))

-- bytes in lower-case hex, and a hyphen for none
abbrev pub hex_text : List ℕ → List ℕ
hex_text [] = codes "-"
hex_text (byte ∷ bytes) = encode_lower (byte ∷ bytes)

-- a byte from 0x20 to 0x7E as it is, and a full stop for each other
abbrev pub shown_byte : ℕ → ℕ
shown_byte byte = if nat_le 0x20 byte && nat_le byte 0x7e then byte else 46

abbrev pub shown : List ℕ → List ℕ
shown bytes = map shown_byte bytes

-- the number of a layout
abbrev pub number_of : Layout → ℕ
number_of Layout1 = 1
number_of Layout2 = 2

-- how many bytes the longest group has that fits behind the records
abbrev pub room_text : Option ℕ → List ℕ
room_text None = line (codes "room") (codes "none")
room_text (Some room) = line (codes "room") (decimal room)

-- a file: its name in hex and as it reads, its size, and its bytes likewise
abbrev pub file_text : List ℕ → List ℕ → List ℕ
file_text name bytes =
    line (codes "file") (hex_text name) ++ (line (codes "name") (shown name)
    ++ (line (codes "size") (decimal (length bytes)) ++ (line (codes "hex") (hex_text bytes)
    ++ line (codes "text") (shown bytes))))

-- the files in index order
abbrev pub files_text : List File → List ℕ
files_text files = flat_map (λ file. file_text file.name file.bytes) files

-- the layout, the place of the current image's slot, its sequence, its records and the room behind them, and how many
-- files there are
abbrev pub facts_text : Survey → List ℕ
facts_text it =
    line (codes "layout") (decimal (number_of (layout_of it.slot))) ++ (line (codes "slot") (decimal (start it.slot))
    ++ (line (codes "sequence") (decimal it.sequence) ++ (line (codes "records") (decimal it.records)
    ++ (room_text it.room ++ line (codes "files") (decimal (length it.directory.files))))))

-- all that is told
abbrev pub survey_text : Survey → List ℕ
survey_text it = facts_text it ++ files_text it.directory.files
