-- What a profile asks of a table (docs/reference/profile.md).
use Rattle.std.specs.Prelude.{◌≡◌, ℕ, ℤ, pos, negsuc, List, [], ◌∷◌, is_some, Option, Some, None, Bool, true, false}
use Rattle.std.specs.Prelude.{◌&&◌, ◌||◌, codes, nat_le, bytes_eq, option_and_then, option_map, if◌then◌else◌}
use Rattle.toml.specs.Data.{Data, Items, no_items, item, Members, no_members, member, as_array, as_bool, as_str}
use Rattle.toml.specs.Data.{as_integer, get_member}
use Rattle.pos_service.specs.declared.category.Category.{Category}
use Rattle.pos_service.specs.declared.category.Category.TheVariants.{HardTotals}
use Rattle.pos_service.specs.Names.{is_device_name}
use Rattle.pos_service.specs.Categories.{category_named}
use Rattle.pos_profile.specs.declared.number.NumberKey.{NumberKey}
use Rattle.pos_profile.specs.declared.optional.OptionalKey.{OptionalKey}
use Rattle.pos_profile.specs.declared.optional.OptionalKey.TheVariants.{Flaky}
use Rattle.pos_profile.specs.declared.entry.Role.{Role}
use Rattle.pos_profile.specs.declared.entry.Role.TheVariants.{Device, Spare}
use Rattle.pos_profile.specs.declared.table.Keys.{Keys}
use Rattle.pos_profile.specs.declared.table.Keys.TheVariants.{OfRoot, OfEntry}
use Rattle.pos_profile.specs.Numbers.{key_of_number, least_of, most_of, is_number_key}
use Rattle.pos_profile.specs.OptionalKeys.{is_option_key, key_of_option, most_orders}

-- the key of the root at which a list stands
abbrev pub key_of : Role → List ℕ
key_of Device = codes "device"
key_of Spare = codes "spare"

-- the text at a key
abbrev pub text_at : List ℕ → Members → Option (List ℕ)
text_at key table = option_and_then as_str (get_member key table)

-- a number in a range
abbrev pub number_within : ℕ → ℕ → ℤ → Option ℕ
number_within least most (pos number) = if nat_le least number && nat_le number most then Some number else None
number_within least most (negsuc _) = None

-- a number of the table, where it is there and in its range
abbrev pub number_at : NumberKey → Members → Option ℕ
number_at key table =
    option_and_then (number_within (least_of key) (most_of key))
    (option_and_then as_integer (get_member (key_of_number key) table))

-- the items of an array as a list
abbrev pub data_of : Items → List Data
data_of no_items = []
data_of (item first rest) = first ∷ data_of rest

-- the values of an array
abbrev pub array_in : Data → Option (List Data)
array_in value = option_map data_of (as_array value)

-- a truth value: false where it is absent, and none where another value stands
abbrev pub truth_in : Option Data → Option Bool
truth_in None = Some false
truth_in (Some value) = as_bool value

-- the truth value at an optional key of the table
abbrev pub truth_at : OptionalKey → Members → Option Bool
truth_at key table = truth_in (get_member (key_of_option key) table)

-- a number of failing orders
abbrev pub failing_number : Data → Option ℕ
failing_number value = option_and_then (number_within 0 most_orders) (as_integer value)

-- which orders fail: the first, and how many, where there are these two numbers and no other value
abbrev pub failing_in : List Data → Option (ℕ × ℕ)
failing_in (first ∷ times ∷ []) =
    option_and_then (λ first. option_and_then (λ times. Some (first, times)) (failing_number times))
    (failing_number first)
failing_in _ = None

-- which orders fail: none where it is absent, and nothing is told where the value is no array of two numbers
abbrev pub flaky_in : Option Data → Option (Option (ℕ × ℕ))
flaky_in None = Some None
flaky_in (Some value) = option_map (λ orders. Some orders) (option_and_then failing_in (array_in value))

-- which orders fail by the table
abbrev pub flaky_at : Members → Option (Option (ℕ × ℕ))
flaky_at table = flaky_in (get_member (key_of_option Flaky) table)

-- each key passes the test
abbrev pub has_only : (List ℕ → Bool) → Members → Bool
has_only test no_members = true
has_only test (member key value rest) = test key && has_only test rest

-- the table has this key, which doesn't pass the test
pub record IsUnknown (test : List ℕ → Bool) (table : Members) (key : List ℕ) : Type 0 where
  pub there : is_some (get_member key table) ≡ true
  pub fails : test key ≡ false
  pub unsound : has_only test table ≡ false

-- a key that doesn't pass the test is found, or there is none
abbrev pub FindsUnknown : (List ℕ → Bool) → Members → Option (List ℕ) → Type 0
FindsUnknown test table None = has_only test table ≡ true
FindsUnknown test table (Some key) = IsUnknown test table key

-- an entry of a category may have this number or this optional key
abbrev pub is_category_key : Category → List ℕ → Bool
is_category_key category key = is_number_key category key || is_option_key category key

-- the keys that a table may have: the root's two lists; an entry's category and what that has, and a device's name
abbrev pub is_key : Keys → List ℕ → Bool
is_key OfRoot key = bytes_eq key (key_of Device) || bytes_eq key (key_of Spare)
is_key (OfEntry Device category) key =
    (bytes_eq key (codes "category") || bytes_eq key (codes "name")) || is_category_key category key
is_key (OfEntry Spare category) key = bytes_eq key (codes "category") || is_category_key category key

-- a key is absent or has an array
abbrev pub is_list : Option Data → Bool
is_list None = true
is_list (Some value) = is_some (as_array value)

-- the values of an array; none where there is no array
abbrev pub values_of : Option Items → List Data
values_of None = []
values_of (Some values) = data_of values

-- the values of the array at a key
abbrev pub values_at : List ℕ → Members → List Data
values_at key table = values_of (option_and_then as_array (get_member key table))

-- the categories that an entry of a list may have: a spare isn't Hard Totals
abbrev pub allowed : Role → Category → Option Category
allowed Spare HardTotals = None
allowed _ category = Some category

-- the category of an entry, where it may have it
abbrev pub category_for : Role → Members → Option Category
category_for role table =
    option_and_then (allowed role) (option_and_then category_named (text_at (codes "category") table))

-- the name of a device, where it is sound; a spare's is empty
abbrev pub name_for : Role → Members → Option (List ℕ)
name_for Device table =
    option_and_then (λ text. if is_device_name text then Some text else None) (text_at (codes "name") table)
name_for Spare table = Some []
