-- The files of totals as text, and how two totals differ (docs/reference/tool.md, "dump" and "diff").
use Rattle.std.specs.Prelude.{ℕ, ◌++◌, ◌∷◌, List, [], Option, Some, None, bytes_eq, codes, decimal, flat_map}
use Rattle.std.specs.Prelude.{if◌then◌else◌}
use Rattle.hex.specs.Hex.{encode_lower}
use Rattle.pos_dir.specs.declared.file.File.{File}
use Rattle.pos_image.specs.Layout.{layout_of}
use Rattle.pos_survey.specs.declared.survey.Survey.{Survey}
use Rattle.pos_report.specs.Files.{bytes_of}
use Rattle.pos_report.specs.Texts.{joined, layout_number}

-- a file: its name and its bytes, in hex
abbrev pub dump_line : List ℕ → List ℕ → List ℕ
dump_line name bytes = joined (encode_lower name ∷ codes "=" ∷ encode_lower bytes ∷ codes "\n" ∷ [])

-- the files in index order
abbrev pub dump_lines : List File → List ℕ
dump_lines files = flat_map (λ file. dump_line file.name file.bytes) files

-- the layout, and the files
abbrev pub dump_text : Survey → List ℕ
dump_text it = joined (codes "layout " ∷ decimal (layout_number (layout_of it.slot)) ∷ codes "\n" ∷ [])
    ++ dump_lines it.directory.files

-- a word and a name, as a line
abbrev pub named : List ℕ → List ℕ → List ℕ
named word name = word ++ (name ++ codes "\n")

-- how a file differs from the one that other totals have of the same name, with these bytes, if they have one
abbrev pub difference_from : Option (List ℕ) → List ℕ → List ℕ → List ℕ
difference_from None name bytes = named (codes "only in the first: ") name
difference_from (Some found) name bytes = if bytes_eq found bytes then [] else named (codes "differs: ") name

abbrev pub difference : List File → List ℕ → List ℕ → List ℕ
difference other name bytes = difference_from (bytes_of other name) name bytes

-- how files differ from others
abbrev pub differences : List File → List File → List ℕ
differences first other = flat_map (λ file. difference other file.name file.bytes) first

-- a file that other totals don't have
abbrev pub alone_from : Option (List ℕ) → List ℕ → List ℕ
alone_from None name = named (codes "only in the second: ") name
alone_from (Some found) name = []

abbrev pub alone : List File → List ℕ → List ℕ
alone other name = alone_from (bytes_of other name) name

-- the files that others don't have
abbrev pub all_alone : List File → List File → List ℕ
all_alone second other = flat_map (λ file. alone other file.name) second

-- how two lists of files differ
abbrev pub difference_text : List File → List File → List ℕ
difference_text first second = differences first second ++ all_alone second first
