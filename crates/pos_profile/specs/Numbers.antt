-- The numbers of a profile's entries: their keys, their ranges, and which a category has (docs/reference/profile.md).
use Rattle.std.specs.Prelude.{ℕ, List, [], ◌∷◌, Bool, true, false, ◌&&◌, codes, bytes_eq}
use Rattle.std.specs.List.{list_any}
use Rattle.pos_service.specs.declared.category.Category.{Category}
use Rattle.pos_service.specs.declared.category.Category.TheVariants.{LineDisplay, PosPrinter}
use Rattle.pos_profile.specs.declared.number.NumberKey.{NumberKey}
use Rattle.pos_profile.specs.declared.number.NumberKey.TheVariants.{Rows, Columns, Chars, Lines, Near}

-- the key at which a number stands
abbrev pub key_of_number : NumberKey → List ℕ
key_of_number Rows = codes "rows"
key_of_number Columns = codes "columns"
key_of_number Chars = codes "chars"
key_of_number Lines = codes "lines"
key_of_number Near = codes "near"

-- the least that a number may be
abbrev pub least_of : NumberKey → ℕ
least_of Rows = 1
least_of Columns = 1
least_of Chars = 1
least_of Lines = 0
least_of Near = 0

-- the most that a number may be
abbrev pub most_of : NumberKey → ℕ
most_of Rows = 8
most_of Columns = 80
most_of Chars = 255
most_of Lines = 100000
most_of Near = 100000

-- entries of a category have this number: a display its rows and columns, a printer the others
abbrev pub has_number : Category → NumberKey → Bool
has_number LineDisplay Rows = true
has_number LineDisplay Columns = true
has_number PosPrinter Chars = true
has_number PosPrinter Lines = true
has_number PosPrinter Near = true
has_number _ number = false

-- all numbers
abbrev pub all_numbers : List NumberKey
all_numbers = Rows ∷ Columns ∷ Chars ∷ Lines ∷ Near ∷ []

-- entries of a category have a number of this key
abbrev pub is_number_key : Category → List ℕ → Bool
is_number_key category key =
    list_any (λ number. has_number category number && bytes_eq key (key_of_number number)) all_numbers
