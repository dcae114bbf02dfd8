-- How each change is spelled, and read back.
use Rattle.std.specs.Prelude.{ℕ, ◌==◌, List, [], ◌∷◌, ◌++◌, length, Option, Some, None, nat_le, if◌then◌else◌}
use Rattle.std.specs.Int.{w16, w32, to_be_bytes}
use Rattle.pos_dir.specs.declared.change.Change.{Change}
use Rattle.pos_dir.specs.declared.change.Change.TheVariants.{Create, Delete, Rename, Write, SetAll}
use Rattle.pos_dir.specs.Changes.{write_limit}
use Rattle.pos_dir.specs.Fields.{◌>>=◌, byte_at, number_at, name_at, text_at, name_spelling, text_spelling}

-- a change: its tag, and its fields
abbrev pub change_spelling : Change → List ℕ
change_spelling (Create name size) = 1 ∷ (name_spelling name ++ to_be_bytes w32 size)
change_spelling (Delete index) = 2 ∷ to_be_bytes w16 index
change_spelling (Rename index name) = 3 ∷ (to_be_bytes w16 index ++ name_spelling name)
change_spelling (Write index offset bytes) =
    4 ∷ (to_be_bytes w16 index ++ (to_be_bytes w32 offset ++ text_spelling bytes))
change_spelling (SetAll index value) = 5 ∷ (to_be_bytes w16 index ++ value ∷ [])

-- the fields of a Create
unfoldable pub create_at : List ℕ → Option (Change × List ℕ)
create_at bytes = do
  name ← name_at bytes
  size ← number_at w32 name.1
  Some (Create name.0 size.0, size.1)

-- the fields of a Delete
unfoldable pub delete_at : List ℕ → Option (Change × List ℕ)
delete_at bytes = do
  index ← number_at w16 bytes
  Some (Delete index.0, index.1)

-- the fields of a Rename
unfoldable pub rename_at : List ℕ → Option (Change × List ℕ)
rename_at bytes = do
  index ← number_at w16 bytes
  name ← name_at index.1
  Some (Rename index.0 name.0, name.1)

-- the fields of a Write
unfoldable pub write_at : List ℕ → Option (Change × List ℕ)
write_at bytes = do
  index ← number_at w16 bytes
  offset ← number_at w32 index.1
  text ← text_at offset.1
  if nat_le (length text.0) write_limit then Some (Write index.0 offset.0 text.0, text.1) else None

-- the fields of a SetAll
unfoldable pub set_all_at : List ℕ → Option (Change × List ℕ)
set_all_at bytes = do
  index ← number_at w16 bytes
  value ← byte_at index.1
  Some (SetAll index.0 value.0, value.1)

-- the fields behind a tag
unfoldable pub fields_at : ℕ → List ℕ → Option (Change × List ℕ)
fields_at tag bytes =
    if tag == 1 then create_at bytes
    else (if tag == 2 then delete_at bytes
    else (if tag == 3 then rename_at bytes
    else (if tag == 4 then write_at bytes
    else (if tag == 5 then set_all_at bytes else None))))

-- a change
unfoldable pub change_at : List ℕ → Option (Change × List ℕ)
change_at bytes = do
  tag ← byte_at bytes
  fields_at tag.0 tag.1
