-- What a directory is: a list of files in index order, within the limits of the disk's layout (Hard Totals).
use Rattle.std.specs.Prelude.{◌≡◌, ℕ, ◌≤◌, ◌<◌, ◌^◌, Bool, true, not, ◌&&◌, List, [], ◌∷◌, length, sum_by, nat_le}
use Rattle.std.specs.Prelude.{Option, position}
use Rattle.std.specs.List.{list_any, list_all}
use Rattle.std.specs.Str.{bytes_eq}
use Rattle.pos_dir.specs.declared.file.File.{File}
use Rattle.pos_dir.specs.declared.file.Limits.{Limits}
use Rattle.pos_dir.specs.declared.file.TheConstants.{LAYOUT_2}

-- a byte that a name may have
abbrev pub is_name_byte : ℕ → Bool
is_name_byte byte = nat_le 0x20 byte && nat_le byte 0x7f

-- a good name: 1 to 10 bytes of 0x20 to 0x7F
abbrev pub is_name : List ℕ → Bool
is_name name = nat_le 1 (length name) && (nat_le (length name) 10 && list_all is_name_byte name)

-- some file has the name
abbrev pub has_name : List File → List ℕ → Bool
has_name files name = list_any (λ file. bytes_eq file.name name) files

-- the first index of a file with the name
abbrev pub index_of : List File → List ℕ → Option ℕ
index_of files name = position (λ file. bytes_eq file.name name) files

-- no two files have one name
abbrev pub are_distinct : List File → Bool
are_distinct [] = true
are_distinct (file ∷ files) = not (has_name files file.name) && are_distinct files

-- the bytes of all files in sum
abbrev pub total_size : List File → ℕ
total_size files = sum_by (λ file. length file.bytes) files

-- A directory: how much it may hold, and its files in index order.
pub record DirectoryView : Type 0 where
  pub limits : Limits
  pub files : List File

-- the directory of these files
abbrev pub directory_of : Limits → List File → DirectoryView
directory_of limits files = record { limits = limits; files = files }

-- The files of a directory: few and small enough, with good names, of which no two are the same.
pub record IsDirectory (limits : Limits) (files : List File) : Type 0 where
  pub count : length files ≤ limits.files
  pub size : total_size files ≤ limits.bytes
  pub named : list_all (λ file. is_name file.name) files ≡ true
  pub distinct : are_distinct files ≡ true

-- Limits that the widths of a directory's spelling hold.
pub record AreWritable (limits : Limits) : Type 0 where
  pub files : limits.files < 2 ^ 16
  pub bytes : limits.bytes < 2 ^ 32

-- The second limits allow what the first allow, and maybe more.
pub record AreWider (limits wider : Limits) : Type 0 where
  pub files : limits.files ≤ wider.files
  pub bytes : limits.bytes ≤ wider.bytes

-- The limits allow no more files than those of layout 2, and the files are those of a directory within them.
pub record IsHeld (limits : Limits) (files : List File) : Type 0 where
  pub few : limits.files ≤ LAYOUT_2.files
  pub writable : AreWritable limits
  pub directory : IsDirectory limits files
