-- What changes do to files, and which groups of changes there are (Hard Totals).
use Rattle.std.specs.Prelude.{◌≡◌, ℕ, ◌+◌, ◌<◌, ◌≤◌, ◌^◌, ◌&&◌, List, [], ◌∷◌, ◌++◌, length, take, drop, remove}
use Rattle.std.specs.Prelude.{replicate, slice_get, slice_set, Option, Some, None, Result, Ok, Err, nat_lt, nat_le}
use Rattle.std.specs.Prelude.{if◌then◌else◌}
use Rattle.std.specs.Result.{result_ok, result_err}
use Rattle.std.specs.List.{AllByRecursion}
use Rattle.pos_dir.specs.declared.file.File.{File}
use Rattle.pos_dir.specs.declared.file.Limits.{Limits}
use Rattle.pos_dir.specs.declared.change.Change.{Change}
use Rattle.pos_dir.specs.declared.change.Change.TheVariants.{Create, Delete, Rename, Write, SetAll}
use Rattle.pos_dir.specs.declared.fault.DirectoryFault.{DirectoryFault}
use Rattle.pos_dir.specs.declared.fault.DirectoryFault.TheVariants.{NoFile, Exists, Range, NoRoom, BadName}
use Rattle.pos_dir.specs.Files.{is_name, has_name, total_size}

-- the old bytes with new ones in their place from `at` on
abbrev pub splice : List ℕ → ℕ → List ℕ → List ℕ
splice old at bytes = take at old ++ bytes ++ drop (at + length bytes) old

-- what a change of a file makes, where there is the file
abbrev pub with_file : Option File → (File → Result (List File) DirectoryFault) → Result (List File) DirectoryFault
with_file None change = Err NoFile
with_file (Some file) change = change file

-- the files after a change, or why it isn't applicable: the first fault that applies
abbrev pub outcome : Limits → List File → Change → Result (List File) DirectoryFault
outcome limits files (Create name size) =
    if has_name files name then Err Exists
    else (if nat_lt (length files) limits.files && nat_le (total_size files + size) limits.bytes
    then Ok (files ++ record { name = name; bytes = replicate size 0 } ∷ [])
    else Err NoRoom)
outcome limits files (Delete index) = with_file (slice_get files index) (λ file. Ok (remove files index))
outcome limits files (Rename index name) = with_file (slice_get files index) (λ file.
    if has_name files name then Err Exists else Ok (slice_set files index (record file { name = name })))
outcome limits files (Write index offset bytes) = with_file (slice_get files index) (λ file.
    if nat_le (offset + length bytes) (length file.bytes)
    then Ok (slice_set files index (record file { bytes = splice file.bytes offset bytes }))
    else Err Range)
outcome limits files (SetAll index value) = with_file (slice_get files index) (λ file.
    Ok (slice_set files index (record file { bytes = replicate (length file.bytes) value })))

-- the file of a change of its bytes alone, and the least size that it has to have; none for another change
abbrev pub least_size_of : Change → Option (ℕ × ℕ)
least_size_of (Write index offset bytes) = Some (index, offset + length bytes)
least_size_of (SetAll index value) = Some (index, 0)
least_size_of _ = None

-- what a step makes of the files that the one before it made
abbrev pub and_then : Result (List File) DirectoryFault → (List File → Result (List File) DirectoryFault)
    → Result (List File) DirectoryFault
and_then (Ok files) step = step files
and_then (Err fault) step = Err fault

-- the files after all changes in order, or the fault of the first that isn't applicable
abbrev pub outcome_of_all : Limits → List File → List Change → Result (List File) DirectoryFault
outcome_of_all limits files [] = Ok files
outcome_of_all limits files (change ∷ changes) =
    and_then (outcome limits files change) (λ next. outcome_of_all limits next changes)

-- the files after a group, or none where one of its changes isn't applicable
abbrev pub after : Limits → List File → List Change → Option (List File)
after limits files changes = result_ok (outcome_of_all limits files changes)

-- the fault of the first change of a group that isn't applicable
abbrev pub fault_of : Limits → List File → List Change → Option DirectoryFault
fault_of limits files changes = result_err (outcome_of_all limits files changes)

-- the most bytes that one Write may have
abbrev pub write_limit : ℕ
write_limit = 65536

-- the most changes of a group
abbrev pub group_limit : ℕ
group_limit = 65535

-- why a group doesn't take a change, whatever its room
abbrev pub flaw_of : Change → Option DirectoryFault
flaw_of (Create name size) = if is_name name then None else Some BadName
flaw_of (Delete index) = None
flaw_of (Rename index name) = if is_name name then None else Some BadName
flaw_of (Write index offset bytes) = if nat_le (length bytes) write_limit then None else Some Range
flaw_of (SetAll index value) = None

-- why a group doesn't take one more change: its flaw, else want of room
abbrev pub refusal_of : List Change → Change → Option DirectoryFault
refusal_of changes change =
    elim (flaw_of change) [
      | None ↦ if nat_lt (length changes) group_limit then None else Some NoRoom
      | Some fault ↦ Some fault
    ]

-- the numbers of a change are within their widths
abbrev pub HasWidths : Change → Type 0
HasWidths (Create name size) = size < 2 ^ 32
HasWidths (Delete index) = index < 2 ^ 16
HasWidths (Rename index name) = index < 2 ^ 16
HasWidths (Write index offset bytes) = (index < 2 ^ 16) × (offset < 2 ^ 32)
HasWidths (SetAll index value) = (index < 2 ^ 16) × (value < 256)

-- a change that a group takes
pub record IsChange (change : Change) : Type 0 where
  pub widths : HasWidths change
  pub flawless : flaw_of change ≡ None

-- The changes of a group: not too many, each one that a group takes.
pub record IsGroup (changes : List Change) : Type 0 where
  pub count : length changes ≤ group_limit
  pub each : AllByRecursion IsChange changes
