-- The fields of which spellings are made: how each is spelled, and how it is read from the front of bytes, with what
-- stands behind it, or none. Numbers are big-endian.
use Rattle.std.specs.Prelude.{ℕ, List, [], ◌∷◌, ◌++◌, length, take, drop, Option, Some, None, nat_lt, if◌then◌else◌}
use Rattle.std.specs.Int.{Width, w32, byte_len, from_be_bytes, to_be_bytes}
use Rattle.pos_dir.specs.Files.{is_name}

-- a name: one byte of length, and its bytes
abbrev pub name_spelling : List ℕ → List ℕ
name_spelling name = length name ∷ name

-- a text: four bytes of length, and its bytes
abbrev pub text_spelling : List ℕ → List ℕ
text_spelling bytes = to_be_bytes w32 (length bytes) ++ bytes

infixl 10 ◌>>=◌
-- what is read behind what was read
abbrev pub ◌>>=◌ : {A B : Type 0} → Option A → (A → Option B) → Option B
None >>= read = None
(Some x) >>= read = read x

-- one byte
abbrev pub byte_at : List ℕ → Option (ℕ × List ℕ)
byte_at [] = None
byte_at (byte ∷ rest) = Some (byte, rest)

-- so many bytes
abbrev pub part_at : ℕ → List ℕ → Option (List ℕ × List ℕ)
part_at size bytes = if nat_lt (length bytes) size then None else Some (take size bytes, drop size bytes)

-- a big-endian number of some width
abbrev pub number_at : Width → List ℕ → Option (ℕ × List ℕ)
number_at width bytes =
    if nat_lt (length bytes) (byte_len width) then None
    else Some (from_be_bytes width (take (byte_len width) bytes), drop (byte_len width) bytes)

-- a good name behind its length
unfoldable pub name_at : List ℕ → Option (List ℕ × List ℕ)
name_at bytes = do
  size ← byte_at bytes
  name ← part_at size.0 size.1
  if is_name name.0 then Some name else None

-- bytes behind their number
unfoldable pub text_at : List ℕ → Option (List ℕ × List ℕ)
text_at bytes = do
  size ← number_at w32 bytes
  part_at size.0 size.1
