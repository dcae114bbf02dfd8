-- The keys that a profile's entries may have or lack: which a category has, and their values
-- (docs/reference/profile.md).
use Rattle.std.specs.Prelude.{ℕ, List, [], ◌∷◌, Bool, true, false, ◌&&◌, codes, bytes_eq}
use Rattle.std.specs.List.{list_any}
use Rattle.pos_service.specs.declared.category.Category.{Category}
use Rattle.pos_service.specs.declared.category.Category.TheVariants.{LineDisplay, HardTotals}
use Rattle.pos_profile.specs.declared.optional.OptionalKey.{OptionalKey}
use Rattle.pos_profile.specs.declared.optional.OptionalKey.TheVariants.{Ring, Flaky, Record}

-- an optional key
abbrev pub key_of_option : OptionalKey → List ℕ
key_of_option Ring = codes "ring"
key_of_option Flaky = codes "flaky"
key_of_option Record = codes "record"

-- the most that a number of failing orders may be
abbrev pub most_orders : ℕ
most_orders = 1000000

-- every device with a peripheral may have it; a ring is a display's alone
abbrev pub is_shared : OptionalKey → Bool
is_shared Ring = false
is_shared Flaky = true
is_shared Record = true

-- entries of a category may have this key: displays have all, Hard Totals none, others those that are shared
abbrev pub has_option : Category → OptionalKey → Bool
has_option LineDisplay key = true
has_option HardTotals key = false
has_option _ key = is_shared key

-- all optional keys
abbrev pub all_options : List OptionalKey
all_options = Ring ∷ Flaky ∷ Record ∷ []

-- entries of a category may have an optional key that is spelt so
abbrev pub is_option_key : Category → List ℕ → Bool
is_option_key category key =
    list_any (λ option. has_option category option && bytes_eq key (key_of_option option)) all_options
