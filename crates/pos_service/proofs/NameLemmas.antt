-- Among names of some lengths a word of such a length is found as among all.
use Rattle.std.proofs.Common.{◌≡◌, ◌≢◌, ◌∷◌, ℕ, List, [], Bool, true, false, length, refl, arith}
use Rattle.std.proofs.lemmas.Slice.Eq.{bytes_eq-Decides}
use Rattle.std.specs.Prelude.{filter, bytes_eq}
use Rattle.std.specs.Map.{lookup}
use Rattle.pos_service.specs.declared.property.Property.{Property}
use Rattle.pos_service.specs.Properties.{property_named, names_of, property_names}

-- texts of different lengths differ
differ_in_length : (xs ys : List ℕ) → length xs ≢ length ys → bytes_eq xs ys ≡ false
differ_in_length xs ys ne = grind (arith, bytes_eq-Decides)

among : (is_length : ℕ → Bool) (names : List (List ℕ × Property)) (word : List ℕ) → is_length (length word) ≡ true
    → lookup (bytes_eq word) (filter (λ name. is_length (length name.0)) names) ≡ lookup (bytes_eq word) names
among is_length [] word long = refl
among is_length (name ∷ names) word long = grind (arith, among is_length names word long, differ_in_length)

pub as_long : (is_length : ℕ → Bool) (word : List ℕ) → is_length (length word) ≡ true
    → lookup (bytes_eq word) (names_of is_length) ≡ property_named word
as_long is_length word long = among is_length property_names word long
