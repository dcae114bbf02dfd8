-- Why bytes spell no directory, and where: the rules of docs/reference/totals-file.md, "The layouts", on a body.
use Rattle.std.specs.Prelude.{◌≡◌, ◌≢◌, ◌⊎◌, ◌<◌, ◌≤◌, ◌+◌, ℕ, List, [], length, Bool, true, false, not, Option, Some}
use Rattle.std.specs.Prelude.{None}
use Rattle.std.specs.Int.{w16}
use Rattle.std.specs.List.{flat_map}
use Rattle.pos_dir.specs.declared.file.File.{File}
use Rattle.pos_dir.specs.declared.flaw.Flaw.{Flaw}
use Rattle.pos_dir.specs.declared.flaw.Flaw.TheVariants as flaw
use Rattle.pos_dir.specs.declared.file.Limits.{Limits}
use Rattle.pos_dir.specs.Files.{is_name, has_name, are_distinct, total_size}
use Rattle.pos_dir.specs.Fields.{◌>>=◌, byte_at, part_at, number_at}
use Rattle.pos_dir.specs.Reading.{file_at, items_at}
use Rattle.pos_dir.specs.Spelling.{file_spelling}

-- what was read is no good name
abbrev pub is_bad : Option (List ℕ × List ℕ) → Bool
is_bad None = false
is_bad (Some name) = not (is_name name.0)

-- a name with its length is there, and it isn't a good one
abbrev pub has_bad_name : List ℕ → Bool
has_bad_name bytes = is_bad (byte_at bytes >>= λ size. part_at size.0 size.1)

-- The bytes begin with a number of files and then with these files, behind which this rest stands.
pub record BeginWith (bytes : List ℕ) (count : ℕ) (files : List File) (rest : List ℕ) : Type 0 where
  pub text : List ℕ
  pub counted : number_at w16 bytes ≡ Some (count, text)
  pub read : items_at file_at (length files) text ≡ Some (files, rest)

-- where the bytes behind the count and these files stand
abbrev pub end_of_files : List File → ℕ
end_of_files files = 2 + length (flat_map file_spelling files)

-- why these bytes don't begin with a file that has room, and a name of its own, behind others
abbrev pub IsFileFlaw : ℕ → List File → List ℕ → Flaw → Type 0
IsFileFlaw room files rest flaw.BytesMissing = (file_at rest ≡ None) × (has_bad_name rest ≡ false)
IsFileFlaw room files rest flaw.BadName = has_bad_name rest ≡ true
IsFileFlaw room files rest flaw.TooManyBytes =
    (file : File × List ℕ) × (file_at rest ≡ Some file) × (room < total_size files + length file.0.bytes)
IsFileFlaw room files rest flaw.NameTwice =
    (file : File × List ℕ) × (file_at rest ≡ Some file) × (has_name files file.0.name ≡ true)
    × (total_size files + length file.0.bytes ≤ room)
IsFileFlaw room files rest other = ⊥

-- Of so many files that a text begins with, the first ones are read and pass, and this rest is behind them; it has the
-- flaw.
pub record StopsFor (count : ℕ) (text : List ℕ) (room : ℕ) (rest : List ℕ) (broken : Flaw) : Type 0 where
  pub files : List File
  pub read : items_at file_at (length files) text ≡ Some (files, rest)
  pub fewer : length files < count
  pub fits : total_size files ≤ room
  pub distinct : are_distinct files ≡ true
  pub why : IsFileFlaw room files rest broken

-- A text begins with so many files, for which there is room and of which no two have one name, and this rest is behind
-- them.
pub record Passes (count : ℕ) (text : List ℕ) (room : ℕ) (rest : List ℕ) : Type 0 where
  pub files : List File
  pub count_is : length files ≡ count
  pub read : items_at file_at (length files) text ≡ Some (files, rest)
  pub fits : total_size files ≤ room
  pub distinct : are_distinct files ≡ true

-- These files break no rule, and nor does the count: the limits allow as many, there is room for them, and no two have
-- one name.
pub record BreakNone (limits : Limits) (count : ℕ) (files : List File) : Type 0 where
  pub few : count ≤ limits.files
  pub fits : total_size files ≤ limits.bytes
  pub distinct : are_distinct files ≡ true

-- The file behind those before this place has the flaw, and they have none.
pub record HasFileFlaw (limits : Limits) (bytes : List ℕ) (at : ℕ) (broken : Flaw) : Type 0 where
  pub count : ℕ
  pub files : List File
  pub rest : List ℕ
  pub begin : BeginWith bytes count files rest
  pub before : BreakNone limits count files
  pub fewer : length files < count
  pub place_is : at ≡ end_of_files files
  pub why : IsFileFlaw limits.bytes files rest broken

-- There are as many files as their number says, which have no flaw, and more bytes behind them.
pub record HasMore (limits : Limits) (bytes : List ℕ) (at : ℕ) : Type 0 where
  pub files : List File
  pub rest : List ℕ
  pub begin : BeginWith bytes (length files) files rest
  pub before : BreakNone limits (length files) files
  pub some : rest ≢ []
  pub place_is : at ≡ end_of_files files

-- the number of files is above the limit
abbrev pub HasManyFiles : Limits → List ℕ → Type 0
HasManyFiles limits bytes =
    (count : ℕ × List ℕ) × (number_at w16 bytes ≡ Some count) × (limits.files < count.0)

-- the bytes break this rule of a directory's spelling at this place, and none before it
abbrev pub HasFlaw : Limits → List ℕ → ℕ → Flaw → Type 0
HasFlaw limits bytes at flaw.TooManyFiles = (at ≡ 0) × HasManyFiles limits bytes
HasFlaw limits bytes at flaw.BytesLeft = HasMore limits bytes at
HasFlaw limits bytes at flaw.BytesMissing =
    ((at ≡ 0) × (number_at w16 bytes ≡ None)) ⊎ HasFileFlaw limits bytes at flaw.BytesMissing
HasFlaw limits bytes at broken = HasFileFlaw limits bytes at broken
