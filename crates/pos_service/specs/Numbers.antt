-- The numbers that are arguments of calls and values of properties.
use Rattle.std.specs.Prelude.{ℕ, ℤ, pos, negsuc, Bool, true, false, ◌==◌, nat_lt, nat_le}

-- at least 0
abbrev pub is_natural : ℤ → Bool
is_natural (pos n) = true
is_natural (negsuc n) = false

-- 1
abbrev pub is_one : ℤ → Bool
is_one (pos n) = n == 1
is_one (negsuc n) = false

-- 0 to a limit
abbrev pub is_up_to : ℕ → ℤ → Bool
is_up_to limit (pos n) = nat_le n limit
is_up_to limit (negsuc n) = false

-- an index of so many places: at least 0, and less than their number
abbrev pub is_index : ℕ → ℤ → Bool
is_index length (pos n) = nat_lt n length
is_index length (negsuc n) = false
