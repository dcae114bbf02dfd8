-- The group of changes of the directory by which calls change the files on the disk.
use Rattle.std.specs.Prelude.{ℕ, nat_abs, Bool, List, map}
use Rattle.std.specs.List.{position_or_len}
use Rattle.pos_dir.specs.declared.change.Change.{Change as FileChange}
use Rattle.pos_dir.specs.declared.change.Change.TheVariants as file
use Rattle.pos_totals.specs.Edits.{edit_change}
use Rattle.pos_totals.specs.HardTotals.{File, Change, Create, Delete, Rename, Edit}
use Rattle.pos_totals.specs.TotalsFiles.{is_named, is_called}

-- the index of the first file that meets a test; without one it is the number of files
abbrev pub index_of : (File → Bool) → List File → ℕ
index_of test files = position_or_len test files

-- the change of the directory, which names files by their index
abbrev pub file_change : List File → Change → FileChange
file_change files (Create name size) = file.Create name (nat_abs size)
file_change files (Delete name) = file.Delete (index_of (is_named name) files)
file_change files (Rename handle name) = file.Rename (index_of (is_called handle) files) name
file_change files (Edit handle edit) = edit_change (index_of (is_called handle) files) edit

-- the group of changes that are done together; none but its last adds a file or removes one
abbrev pub group_of : List File → List Change → List FileChange
group_of files changes = map (file_change files) changes
