-- What is asked of the files of Hard Totals (chapter Hard Totals).
use Rattle.std.specs.Prelude.{ℕ, ◌-◌, ℤ, pos, negsuc, Bool, false, ◌&&◌, List, length, map, sum_by, slice_get, Option}
use Rattle.std.specs.Prelude.{Some, None, is_some, nat_eq, nat_lt, nat_le, bytes_eq, if◌then◌else◌}
use Rattle.std.specs.List.{find, list_all}
use Rattle.pos_service.specs.Claims.{is_own, is_foreign}
use Rattle.pos_service.specs.Numbers.{is_up_to}
use Rattle.pos_totals.specs.HardTotals.{TotalsLimits, File}
use Rattle.pos_totals.specs.Ranges.{is_range}

-- a byte that a name may have
abbrev pub is_name_byte : ℕ → Bool
is_name_byte byte = nat_le 0x20 byte && nat_le byte 0x7f

-- a good name: 1 to 10 bytes of 0x20 to 0x7F
abbrev pub is_name : List ℕ → Bool
is_name name = nat_le 1 (length name) && (nat_le (length name) 10 && list_all is_name_byte name)

-- the file has the name
abbrev pub is_named : List ℕ → File → Bool
is_named name file = bytes_eq file.name name

-- the file has the handle
abbrev pub is_called : ℤ → File → Bool
is_called (pos handle) file = nat_eq file.handle handle
is_called (negsuc n) file = false

-- the file at an index
abbrev pub file_at : List File → ℤ → Option File
file_at files (pos index) = slice_get files index
file_at files (negsuc n) = None

-- some file meets a test
abbrev pub has_file : (File → Bool) → List File → Bool
has_file test files = is_some (find test files)

-- the bytes of all files in total
abbrev pub size_in_sum : List File → ℕ
size_in_sum files = sum_by (λ file. length file.bytes) files

-- FreeData: how many bytes are left for new files
abbrev pub free_data : TotalsLimits → List File → ℕ
free_data limits files = limits.bytes - size_in_sum files

-- there is the file, and the control has claimed it, or another one has
abbrev pub is_own_file : ℕ → Option File → Bool
is_own_file control None = false
is_own_file control (Some file) = is_own control file.claim

abbrev pub is_foreign_file : ℕ → Option File → Bool
is_foreign_file control None = false
is_foreign_file control (Some file) = is_foreign control file.claim

-- there is room for one more file, of this size
abbrev pub has_room : TotalsLimits → List File → ℤ → Bool
has_room limits files size = is_up_to (free_data limits files) size && nat_lt (length files) limits.files

-- a range of the file's bytes, if there is the file
abbrev pub is_range_of : Option File → ℤ → ℤ → Bool
is_range_of None offset count = false
is_range_of (Some file) offset count = is_range (length file.bytes) offset count

-- the files with each that meets a test changed
abbrev pub with_each : (File → Bool) → (File → File) → List File → List File
with_each test change files = map (λ file. if test file then change file else file) files
