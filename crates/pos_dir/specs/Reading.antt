-- Reading files and changes from left to right: an item and the bytes behind it, or none.
use Rattle.std.specs.Prelude.{◌≡◌, ℕ, zero, suc, Bool, true, false, ◌&&◌, List, [], ◌∷◌, length, Option, Some, None}
use Rattle.std.specs.Prelude.{nat_le, if◌then◌else◌}
use Rattle.std.specs.Int.{w16}
use Rattle.pos_dir.specs.declared.file.File.{File}
use Rattle.pos_dir.specs.declared.file.Limits.{Limits}
use Rattle.pos_dir.specs.declared.change.Change.{Change}
use Rattle.pos_dir.specs.Files.{are_distinct, total_size}
use Rattle.pos_dir.specs.ChangeTexts.{change_at}
use Rattle.pos_dir.specs.Fields.{◌>>=◌, number_at, name_at, text_at}

-- a file
unfoldable pub file_at : List ℕ → Option (File × List ℕ)
file_at bytes = do
  name ← name_at bytes
  text ← text_at name.1
  Some (record { name = name.0; bytes = text.0 }, text.1)

-- so many items, one behind the other
unfoldable pub items_at : {A : Type 0} → (List ℕ → Option (A × List ℕ)) → ℕ → List ℕ → Option (List A × List ℕ)
items_at item_at zero bytes = Some ([], bytes)
items_at item_at (suc count) bytes = do
  first ← item_at bytes
  others ← items_at item_at count first.1
  Some (first.0 ∷ others.0, others.1)

-- the bytes behind files whose sizes are at most the room in sum
abbrev pub end_within : ℕ → Option (List File × List ℕ) → Option (List ℕ)
end_within room None = None
end_within room (Some files) = if nat_le (total_size files.0) room then Some files.1 else None

-- files within the limits, of which no two have one name
abbrev pub is_sound : Limits → List File → Bool
is_sound limits files =
    nat_le (length files) limits.files && (nat_le (total_size files) limits.bytes && are_distinct files)

-- all is read as items, and so are as many as the count at the start of the bytes behind it
abbrev pub Locates : {A : Type 0} → (List ℕ → Option (A × List ℕ)) → Option (List A) → ℕ → List ℕ → Type 0
Locates {A = A} item_at read count bytes =
    (items : List A) × (read ≡ Some items) × (items_at item_at count bytes ≡ Some (items, []))

-- no bytes are left over
abbrev pub is_end : List ℕ → Bool
is_end [] = true
is_end (byte ∷ bytes) = false

-- a directory, all of the bytes
unfoldable pub directory_at : Limits → List ℕ → Option (List File)
directory_at limits bytes = do
  count ← number_at w16 bytes
  files ← items_at file_at count.0 count.1
  if is_sound limits files.0 && is_end files.1 then Some files.0 else None

-- a group, all of the bytes
unfoldable pub group_at : List ℕ → Option (List Change)
group_at bytes = do
  count ← number_at w16 bytes
  changes ← items_at change_at count.0 count.1
  if is_end changes.1 then Some changes.0 else None
