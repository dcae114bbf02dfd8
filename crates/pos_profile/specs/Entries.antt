-- The entries of a profile, each read by itself (docs/reference/profile.md).
use Rattle.std.specs.Prelude.{◌≡◌, ℕ, List, Option, Some, None, Bool, true, false, Result, Ok, Err, option_and_then}
use Rattle.std.specs.Prelude.{if◌then◌else◌}
use Rattle.toml.specs.Data.{Data, Members, as_table}
use Rattle.pos_service.specs.declared.category.Category.{Category}
use Rattle.pos_profile.specs.declared.entry.Entry.{Entry}
use Rattle.pos_profile.specs.declared.number.NumberKey.{NumberKey}
use Rattle.pos_profile.specs.declared.number.NumberKey.TheVariants.{Rows, Columns, Chars, Lines, Near}
use Rattle.pos_profile.specs.declared.optional.OptionalKey.{OptionalKey}
use Rattle.pos_profile.specs.declared.optional.OptionalKey.TheVariants.{Ring, Flaky, Record}
use Rattle.pos_profile.specs.declared.entry.Role.{Role}
use Rattle.pos_profile.specs.declared.entry_reader.Numbers.{Numbers}
use Rattle.pos_profile.specs.declared.table.Keys.TheVariants.{OfEntry}
use Rattle.pos_profile.specs.declared.variation.Variation.{Variation}
use Rattle.pos_profile.specs.Numbers.{has_number}
use Rattle.pos_profile.specs.OptionalKeys.{has_option}
use Rattle.pos_profile.specs.Tables.{category_for, flaky_at, has_only, is_key, name_for, number_at, truth_at}

-- no number but 0
abbrev pub no_numbers : Numbers
no_numbers = record { rows = 0; columns = 0; chars = 0; lines = 0; near = 0 }

-- a number of a category, where it is there and in its range; 0 where the category doesn't have it
abbrev pub number_of : Category → Members → NumberKey → Option ℕ
number_of category table key = if has_number category key then number_at key table else Some 0

-- the numbers of an entry, where each that its category has is there and in its range
abbrev pub numbers_of : Category → Members → Option Numbers
numbers_of category table =
    option_and_then (λ rows. option_and_then (λ columns. option_and_then (λ chars. option_and_then (λ lines.
    option_and_then (λ near.
    Some (record { rows = rows; columns = columns; chars = chars; lines = lines; near = near }))
    (number_of category table Near))
    (number_of category table Lines))
    (number_of category table Chars))
    (number_of category table Columns))
    (number_of category table Rows)

-- a number that the category has is missing or not in its range
pub record IsBadNumber (category : Category) (table : Members) (number : NumberKey) : Type 0 where
  pub has : has_number category number ≡ true
  pub bad : number_at number table ≡ None
  pub unsound : numbers_of category table ≡ None

-- a number is read, or the category has it, and it is missing or not in its range
abbrev pub ReadsNumber : Category → NumberKey → Members → Result ℕ NumberKey → Type 0
ReadsNumber category key table (Ok number) = number_of category table key ≡ Some number
ReadsNumber category key table (Err bad) =
    (bad ≡ key) × (has_number category key ≡ true) × (number_at key table ≡ None)

-- the numbers are read, or one is bad
abbrev pub ReadsNumbers : Category → Members → Result Numbers NumberKey → Type 0
ReadsNumbers category table (Ok numbers) = numbers_of category table ≡ Some numbers
ReadsNumbers category table (Err number) = IsBadNumber category table number

-- a plain device: no ring, no order of it fails, and none is counted
abbrev pub plain : Variation
plain = record { ring = false; flaky = None; recorded = false }

-- the truth value at an optional key of a category; false where the category doesn't have it
abbrev pub truth_of : Category → OptionalKey → Members → Option Bool
truth_of category key table = if has_option category key then truth_at key table else Some false

-- which orders of a category's device fail; none where the category has no such key
abbrev pub flaky_of : Category → Members → Option (Option (ℕ × ℕ))
flaky_of category table = if has_option category Flaky then flaky_at table else Some None

-- how a category's device differs from a plain one, where each optional key has a value that it may have
abbrev pub variation_of : Category → Members → Option Variation
variation_of category table =
    option_and_then (λ ring. option_and_then (λ flaky. option_and_then (λ recorded.
    Some (record { ring = ring; flaky = flaky; recorded = recorded }))
    (truth_of category Record table))
    (flaky_of category table))
    (truth_of category Ring table)

-- the value of an optional key is none that it may have
abbrev pub IsIllValued : OptionalKey → Members → Type 0
IsIllValued Ring table = truth_at Ring table ≡ None
IsIllValued Flaky table = flaky_at table ≡ None
IsIllValued Record table = truth_at Record table ≡ None

-- an optional key that the category has is ill-valued
pub record IsBadOption (category : Category) (table : Members) (key : OptionalKey) : Type 0 where
  pub has : has_option category key ≡ true
  pub bad : IsIllValued key table
  pub unsound : variation_of category table ≡ None

-- how a device differs from a plain one is read, or an optional key is ill-valued
abbrev pub ReadsVariation : Category → Members → Result Variation OptionalKey → Type 0
ReadsVariation category table (Ok variation) = variation_of category table ≡ Some variation
ReadsVariation category table (Err key) = IsBadOption category table key

-- a truth value is read, or the category has its key, and it is ill-valued
abbrev pub ReadsTruth : Category → OptionalKey → Members → Result Bool OptionalKey → Type 0
ReadsTruth category key table (Ok truth) = truth_of category key table ≡ Some truth
ReadsTruth category key table (Err bad) =
    (bad ≡ key) × (has_option category key ≡ true) × (truth_at key table ≡ None)

-- the failing orders are read, or the category has their key, and it is ill-valued
abbrev pub ReadsFlaky : Category → Members → Result (Option (ℕ × ℕ)) OptionalKey → Type 0
ReadsFlaky category table (Ok flaky) = flaky_of category table ≡ Some flaky
ReadsFlaky category table (Err bad) =
    (bad ≡ Flaky) × (has_option category Flaky ≡ true) × (flaky_at table ≡ None)

-- the entry of a category with this name and these numbers, whose device differs so from a plain one
abbrev pub entry_with : Category → List ℕ → Numbers → Variation → Entry
entry_with category name numbers variation = record {
  name = name;
  category = category;
  rows = numbers.rows;
  columns = numbers.columns;
  chars = numbers.chars;
  lines = numbers.lines;
  near = numbers.near;
  ring = variation.ring;
  flaky = variation.flaky;
  recorded = variation.recorded;
}

-- the entry that a table is: its category, its name, its numbers and its optional keys are sound, and no other key is
-- there
abbrev pub table_entry : Role → Members → Option Entry
table_entry role table =
    option_and_then (λ category. option_and_then (λ name. option_and_then (λ numbers. option_and_then (λ variation.
    if has_only (is_key (OfEntry role category)) table then Some (entry_with category name numbers variation) else None)
    (variation_of category table))
    (numbers_of category table))
    (name_for role table))
    (category_for role table)

-- the entry that a value of a list is, where it is sound
abbrev pub entry_of : Role → Data → Option Entry
entry_of role value = option_and_then (table_entry role) (as_table value)

-- a profile: its devices and its spares, in order
pub record Contents : Type 0 where
  pub devices : List Entry
  pub spares : List Entry
