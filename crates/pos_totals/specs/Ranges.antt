-- Ranges of bytes within a size.
use Rattle.std.specs.Prelude.{ℕ, ◌+◌, ℤ, pos, negsuc, Bool, false, nat_le}

-- a range of bytes within a size: neither the offset nor the count is below 0
abbrev pub is_range : ℕ → ℤ → ℤ → Bool
is_range size (pos offset) (pos count) = nat_le (offset + count) size
is_range size (pos offset) (negsuc n) = false
is_range size (negsuc n) count = false
