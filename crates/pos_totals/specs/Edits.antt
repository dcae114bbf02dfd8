-- Edits: changes of a file that is there, whose size stays (chapter Hard Totals, write and setAll). The other files
-- know an edit only by what is said of it here.
use Rattle.std.specs.Prelude.{◌≡◌, ℕ, ◌+◌, ℤ, pos, nat_abs, Bool, true, List, ◌++◌, length, take, drop, replicate}
use Rattle.std.specs.Prelude.{Option, Some, None}
use Rattle.pos_dir.specs.Changes.{flaw_of}
use Rattle.pos_dir.specs.declared.change.Change.{Change as FileChange}
use Rattle.pos_dir.specs.declared.change.Change.TheVariants as file
use Rattle.pos_service.specs.Numbers.{is_up_to}
use Rattle.pos_service.specs.declared.call.Call.{Call}
use Rattle.pos_service.specs.declared.call.Call.TheVariants as call
use Rattle.pos_totals.specs.Ranges.{is_range}
use Rattle.pos_totals.specs.declared.edits.Edit.{Edit}
use Rattle.pos_totals.specs.declared.edits.Edit.TheVariants as asked
use Rattle.pos_totals.specs.declared.edits.OwnedEdit.{OwnedEdit}
use Rattle.pos_totals.specs.declared.edits.OwnedEdit.TheVariants as owned

-- bytes in the place of those from an offset on, or all bytes the same
pub data FileEdit : Type 0 where
  Write : (offset : ℤ) (bytes : List ℕ) → FileEdit
  SetAll : (value : ℤ) → FileEdit

-- the edit that a call asks for, with the handle of its file, if it asks for one
abbrev pub edit_asked : Call → Option (ℤ × FileEdit)
edit_asked (call.Write handle offset bytes) = Some (handle, Write offset bytes)
edit_asked (call.SetAll handle n) = Some (handle, SetAll n)
edit_asked asked = None

-- what it asks of a file of this size: that the bytes lie within it, or that the value is that of a byte
abbrev pub fits : ℕ → FileEdit → Bool
fits size (Write offset bytes) = is_range size offset (pos (length bytes))
fits size (SetAll n) = is_up_to 255 n

-- what it costs, if it is buffered
abbrev pub edit_cost : FileEdit → ℕ
edit_cost (Write offset bytes) = length bytes + 16
edit_cost (SetAll n) = 16

-- the bytes with others in the place of those from an offset on
abbrev pub overwritten : List ℕ → ℕ → List ℕ → List ℕ
overwritten old offset bytes = take offset old ++ bytes ++ drop (offset + length bytes) old

-- the bytes of a file after it
abbrev pub edited : FileEdit → List ℕ → List ℕ
edited (Write offset bytes) old = overwritten old (nat_abs offset) bytes
edited (SetAll n) old = replicate (length old) (nat_abs n)

-- the change of the directory that it is, of the file at an index
abbrev pub edit_change : ℕ → FileEdit → FileChange
edit_change index (Write offset bytes) = file.Write index (nat_abs offset) bytes
edit_change index (SetAll n) = file.SetAll index (nat_abs n)

-- the edit that a change of the directory is, if it is one
abbrev pub edit_in : FileChange → Option FileEdit
edit_in (file.Write index offset bytes) = Some (Write (pos offset) bytes)
edit_in (file.SetAll index n) = Some (SetAll (pos n))
edit_in other = None

-- the edit of the code: as a call asks for it, and with bytes of its own
abbrev pub edit_of : Edit → FileEdit
edit_of (asked.Write offset bytes) = Write offset bytes.now
edit_of (asked.SetAll n) = SetAll n

abbrev pub edit_owned : OwnedEdit → FileEdit
edit_owned (owned.Write offset bytes) = Write (pos offset) bytes
edit_owned (owned.SetAll n) = SetAll (pos n)

-- An edit that fits a file of this size is this change of the directory, which a group takes.
pub record IsPlaced (size : ℕ) (edit : FileEdit) (index : ℕ) (made : FileChange) : Type 0 where
  pub fit : fits size edit ≡ true
  pub change : made ≡ edit_change index edit
  pub same : edit_in made ≡ Some edit
  pub flawless : flaw_of made ≡ None
