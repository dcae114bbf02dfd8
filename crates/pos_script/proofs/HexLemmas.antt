-- Hex digits in parts.
use Rattle.std.proofs.Common.{◌≡◌, ◌++◌, ◌∷◌, [], ℕ, ◌/◌, List, length, refl, arith}
use Rattle.hex.specs.Hex.{decode_of, decode_sized, encode_lower, encode_with}

-- digits decode into room for half as many bytes as they decode
pub decodes_half : (digits : List ℕ) → decode_sized digits (length digits / 2) ≡ decode_of digits
decodes_half digits = grind arith

-- no bytes have no digits
pub encodes_nothing : encode_lower [] ≡ []
unfolding encode_with
encodes_nothing = refl

-- the digits of bytes behind others
pub encodes_on : (xs ys : List ℕ) → encode_lower (xs ++ ys) ≡ encode_lower xs ++ encode_lower ys
unfolding encode_with
encodes_on [] ys = refl
encodes_on (x ∷ xs) ys = let more = encodes_on xs ys in grind arith
