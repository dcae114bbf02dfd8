-- What is true of every entry of a profile, and of every profile (docs/reference/profile.md).
use Rattle.std.specs.Prelude.{◌≡◌, ◌≤◌, ℕ, List, [], Bool, true, false, Some, IfSome, is_some, map}
use Rattle.std.specs.List.{All}
use Rattle.pos_service.specs.Names.{is_device_name}
use Rattle.pos_service.specs.Peripherals.{IsInRange}
use Rattle.pos_profile.specs.declared.entry.Entry.{Entry}
use Rattle.pos_profile.specs.declared.number.NumberKey.{NumberKey}
use Rattle.pos_profile.specs.declared.number.NumberKey.TheVariants.{Rows, Columns, Chars, Lines, Near}
use Rattle.pos_profile.specs.declared.optional.OptionalKey.{OptionalKey}
use Rattle.pos_profile.specs.declared.optional.OptionalKey.TheVariants.{Ring, Flaky, Record}
use Rattle.pos_profile.specs.declared.entry.Role.{Role}
use Rattle.pos_profile.specs.declared.entry.Role.TheVariants.{Device, Spare}
use Rattle.pos_profile.specs.Entries.{Contents}
use Rattle.pos_profile.specs.Kinds.{kind_of}
use Rattle.pos_profile.specs.Numbers.{has_number, least_of, most_of}
use Rattle.pos_profile.specs.OptionalKeys.{has_option, most_orders}
use Rattle.pos_profile.specs.Profiles.{is_refused, is_repeated, names_of}
use Rattle.pos_profile.specs.Tables.{allowed}

-- an entry's number of this key
abbrev pub number_in : Entry → NumberKey → ℕ
number_in entry Rows = entry.rows
number_in entry Columns = entry.columns
number_in entry Chars = entry.chars
number_in entry Lines = entry.lines
number_in entry Near = entry.near

-- a number is in its range where the category has it, and 0 where it hasn't
abbrev pub IsInItsRange : NumberKey → Bool → ℕ → Type 0
IsInItsRange key true number = (least_of key ≤ number) × (number ≤ most_of key)
IsInItsRange key false number = number ≡ 0

-- an entry's device differs by this key from a plain one
abbrev pub differs_by : Entry → OptionalKey → Bool
differs_by entry Ring = entry.ring
differs_by entry Flaky = is_some entry.flaky
differs_by entry Record = entry.recorded

-- two numbers of failing orders, each in its range
abbrev pub AreOrders : ℕ × ℕ → Type 0
AreOrders (first, times) = (first ≤ most_orders) × (times ≤ most_orders)

-- a device has a sound name, a spare none
abbrev pub IsNamedFor : Role → List ℕ → Type 0
IsNamedFor Device name = is_device_name name ≡ true
IsNamedFor Spare name = name ≡ []

-- an entry of a list is sound: so are its category, its name, each of its numbers, and what its peripheral has to be;
-- its device differs from a plain one by keys of its category alone
pub record IsSoundEntry (role : Role) (entry : Entry) : Type 0 where
  pub category : allowed role entry.category ≡ Some entry.category
  pub name : IsNamedFor role entry.name
  pub numbers : (key : NumberKey) → IsInItsRange key (has_number entry.category key) (number_in entry key)
  pub kind : IfSome (kind_of entry) IsInRange
  pub options : (key : OptionalKey) → differs_by entry key ≡ true → has_option entry.category key ≡ true
  pub failing : IfSome entry.flaky AreOrders

-- what is true of every profile: each entry is sound, no device is a second one of Hard Totals, no name stands twice
pub record IsSoundProfile (contents : Contents) : Type 0 where
  pub devices : All (IsSoundEntry Device) contents.devices
  pub spares : All (IsSoundEntry Spare) contents.spares
  pub totals : (place : ℕ) → is_refused (map (λ entry. Some entry) contents.devices) place ≡ false
  pub names : (place : ℕ) → is_repeated (names_of contents.devices) place ≡ false
