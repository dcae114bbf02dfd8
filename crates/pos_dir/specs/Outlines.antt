-- What a check of a group keeps of the files: their names and sizes, which alone decide whether it is applicable.
use Rattle.std.specs.Prelude.{◌≡◌, ℕ, Bool, List, length, map, slice_get, Option, Some, None, Result, Ok, Err, nat_le}
use Rattle.std.specs.Prelude.{if◌then◌else◌}
use Rattle.std.specs.List.{list_any}
use Rattle.std.specs.Option.{option_map}
use Rattle.std.specs.Str.{bytes_eq}
use Rattle.pos_dir.specs.declared.file.File.{File}
use Rattle.pos_dir.specs.declared.file.Limits.{Limits}
use Rattle.pos_dir.specs.declared.outlines.Outline.{Outline}
use Rattle.pos_dir.specs.declared.change.Change.{Change}
use Rattle.pos_dir.specs.declared.fault.DirectoryFault.{DirectoryFault}
use Rattle.pos_dir.specs.declared.fault.DirectoryFault.TheVariants.{NoFile, Range}
use Rattle.pos_dir.specs.Changes.{outcome}

-- the name and the size of a file
pub record Shape : Type 0 where
  pub name : List ℕ
  pub size : ℕ

-- those that an outline has
abbrev pub shape_of : Outline → Shape
shape_of outline = record { name = outline.name.now; size = outline.size }

-- those of a file
abbrev pub shape_of_file : File → Shape
shape_of_file file = record { name = file.name; size = length file.bytes }

-- the outlines have the names and sizes of the files
abbrev pub AreOutlines : List Outline → List File → Type 0
AreOutlines outlines files = map shape_of outlines ≡ map shape_of_file files

-- some outline has the name
abbrev pub is_named : List Outline → List ℕ → Bool
is_named outlines name = list_any (λ outline. bytes_eq outline.name.now name) outlines

-- an answer is that of a change with this outcome, and the outlines are those of the files after it
abbrev pub Agrees : Result (Unit {0}) DirectoryFault → Result (List File) DirectoryFault → List Outline → Type 0
Agrees (Ok _) expected outlines = (files : List File) × (expected ≡ Ok files) × AreOutlines outlines files
Agrees (Err fault) expected outlines = expected ≡ Err fault

-- a check of a change over outlines answers as the change of each files that have them
abbrev pub Checks : Limits → List Outline → Change → Result (Unit {0}) DirectoryFault → List Outline → Type 0
Checks limits old change result new =
    (files : List File) → AreOutlines old files → Agrees result (outcome limits files change) new

-- the size of a file
abbrev pub size_in : List File → ℕ → Option ℕ
size_in files index = option_map (λ file. length file.bytes) (slice_get files index)

-- the answer to a change of the bytes of a file, by its size and the least that it has to have
abbrev pub answer_by_size : Option ℕ → ℕ → Result (Unit {0}) DirectoryFault
answer_by_size None least = Err NoFile
answer_by_size (Some size) least = if nat_le least size then Ok tt else Err Range
