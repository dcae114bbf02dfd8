-- The names of devices (docs/reference/profile.md, docs/reference/console.md).
use Rattle.std.specs.Prelude.{ℕ, List, length, Bool, ◌&&◌, ◌||◌, ◌==◌, nat_le}
use Rattle.std.specs.List.{list_all}
use Rattle.std.specs.Char.{is_ascii_alphanumeric}

-- an ASCII letter, a digit or a hyphen
abbrev pub is_device_name_byte : ℕ → Bool
is_device_name_byte byte = is_ascii_alphanumeric byte || byte == 45

-- 1 to 16 letters, digits or hyphens
abbrev pub is_device_name : List ℕ → Bool
is_device_name text = nat_le 1 (length text) && (nat_le (length text) 16 && list_all is_device_name_byte text)
