-- The one spelling of a directory and of a group as bytes. Numbers are big-endian.
use Rattle.std.specs.Prelude.{ℕ, ◌+◌, ◌*◌, List, ◌++◌, length}
use Rattle.std.specs.List.{flat_map}
use Rattle.std.specs.Int.{w16, to_be_bytes}
use Rattle.pos_dir.specs.declared.file.File.{File}
use Rattle.pos_dir.specs.declared.file.Limits.{Limits}
use Rattle.pos_dir.specs.declared.change.Change.{Change}
use Rattle.pos_dir.specs.Changes.{write_limit}
use Rattle.pos_dir.specs.ChangeTexts.{change_spelling}
use Rattle.pos_dir.specs.Fields.{name_spelling, text_spelling}

-- a file: its name, its size and its bytes
abbrev pub file_spelling : File → List ℕ
file_spelling file = name_spelling file.name ++ text_spelling file.bytes

-- a directory: two bytes of count, and the files in index order
abbrev pub spelling : List File → List ℕ
spelling files = to_be_bytes w16 (length files) ++ flat_map file_spelling files

-- the most bytes of a directory's spelling: the count, and for each file a name of 10 bytes with its length and a size
abbrev pub body_limit : Limits → ℕ
body_limit limits = 2 + 15 * limits.files + limits.bytes

-- the most bytes of a change's spelling: a Write of the most bytes behind its tag, index, offset and length
abbrev pub change_limit : ℕ
change_limit = 11 + write_limit

-- a group: two bytes of count, and the changes in order
abbrev pub group_spelling : List Change → List ℕ
group_spelling changes = to_be_bytes w16 (length changes) ++ flat_map change_spelling changes
