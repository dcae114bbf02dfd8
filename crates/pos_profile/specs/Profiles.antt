-- What a document is as a profile (docs/reference/profile.md).
use Rattle.std.specs.Prelude.{◌≡◌, ◌<◌, ℕ, zero, suc, List, ◌++◌, Option, Some, None, Bool, true, false, not, ◌&&◌, map}
use Rattle.std.specs.Prelude.{bytes_eq, slice_get, take, Result, Ok, Err, ⊤}
use Rattle.std.specs.List.{list_any}
use Rattle.toml.specs.Data.{Members, get_member}
use Rattle.pos_profile.specs.declared.entry.Entry.{Entry}
use Rattle.pos_profile.specs.declared.entry.Role.{Role}
use Rattle.pos_profile.specs.declared.entry.Role.TheVariants.{Device, Spare}
use Rattle.pos_profile.specs.declared.table.Keys.TheVariants.{OfRoot}
use Rattle.pos_profile.specs.declared.profile.ProfileFault.{ProfileFault}
use Rattle.pos_profile.specs.declared.profile.ProfileFault.TheVariants as fault
use Rattle.pos_profile.specs.Categories.{is_totals}
use Rattle.pos_profile.specs.Tables.{has_only, is_key, is_list, key_of, values_at}
use Rattle.pos_profile.specs.Entries.{entry_of, Contents}

-- the lowest number that passes a test
pub record IsLowest (test : ℕ → Bool) (number : ℕ) : Type 0 where
  pub here : test number ≡ true
  pub below : (n : ℕ) → n < number → test n ≡ false

-- it is a sound entry of Hard Totals
abbrev pub is_totals_entry : Option Entry → Bool
is_totals_entry None = false
is_totals_entry (Some entry) = is_totals entry.category

-- an entry is refused after others: it isn't sound by itself, or is a second one of Hard Totals
abbrev pub is_refused_after : List (Option Entry) → Option (Option Entry) → Bool
is_refused_after earlier None = false
is_refused_after earlier (Some None) = true
is_refused_after earlier (Some (Some entry)) = is_totals entry.category && list_any is_totals_entry earlier

-- the entry at a place is refused
abbrev pub is_refused : List (Option Entry) → ℕ → Bool
is_refused entries place = is_refused_after (take place entries) (slice_get entries place)

-- a name stands among earlier ones
abbrev pub stands_after : List (List ℕ) → Option (List ℕ) → Bool
stands_after earlier None = false
stands_after earlier (Some name) = list_any (bytes_eq name) earlier

-- the name at a place stands at an earlier one
abbrev pub is_repeated : List (List ℕ) → ℕ → Bool
is_repeated names place = stands_after (take place names) (slice_get names place)

-- the first place whose name stands at an earlier one, or there is none
abbrev pub FindsRepeated : List (List ℕ) → Option ℕ → Type 0
FindsRepeated names None = (place : ℕ) → is_repeated names place ≡ false
FindsRepeated names (Some place) = IsLowest (is_repeated names) place

-- the entries of a list of the document, in order; None where one isn't sound by itself
abbrev pub entries_of : Role → Members → List (Option Entry)
entries_of role root = map (entry_of role) (values_at (key_of role) root)

-- the names of entries
abbrev pub names_of : List Entry → List (List ℕ)
names_of entries = map (λ entry. entry.name) entries

-- the root has no keys but the two lists, and these are arrays where they are there
abbrev pub is_root : Members → Bool
is_root root =
    has_only (is_key OfRoot) root
    && (is_list (get_member (key_of Device) root) && is_list (get_member (key_of Spare) root))

-- what is numbered isn't sound: 0 is the root, from 1 on the entries, devices before spares
abbrev pub is_faulty : Members → ℕ → Bool
is_faulty root zero = not (is_root root)
is_faulty root (suc place) = is_refused (entries_of Device root ++ entries_of Spare root) place

-- nothing of the document is faulty, and these are its devices and its spares
pub record IsRead (root : Members) (contents : Contents) : Type 0 where
  pub sound : (number : ℕ) → is_faulty root number ≡ false
  pub devices : entries_of Device root ≡ map Some contents.devices
  pub spares : entries_of Spare root ≡ map Some contents.spares

-- the document is this profile: nothing is faulty, and no name stands twice
pub record IsProfileOf (root : Members) (contents : Contents) : Type 0 where
  pub read : IsRead root contents
  pub names : (place : ℕ) → is_repeated (names_of contents.devices) place ≡ false

-- nothing is faulty, and this is the first name that stands a second time
pub record IsDuplicate (root : Members) (name : List ℕ) : Type 0 where
  pub contents : Contents
  pub read : IsRead root contents
  pub place : ℕ
  pub first : IsLowest (is_repeated (names_of contents.devices)) place
  pub name_is : slice_get (names_of contents.devices) place ≡ Some name

-- the profile that a document is, or its refusal
abbrev pub Gives : Members → Result Contents ProfileFault → Type 0
Gives root (Ok contents) = IsProfileOf root contents
Gives root (Err fault.BadText) = ⊥
Gives root (Err (fault.BadEntry number)) = IsLowest (is_faulty root) number
Gives root (Err (fault.Duplicate name)) = IsDuplicate root name
Gives root (Err fault.NoMemory) = ⊤

-- the profile that a text is, by the document that it is, if it is one
abbrev pub FromDocument : Option Members → Result Contents ProfileFault → Type 0
FromDocument (Some root) result = Gives root result
FromDocument None (Ok contents) = ⊥
FromDocument None (Err fault.BadText) = ⊤
FromDocument None (Err (fault.BadEntry number)) = ⊥
FromDocument None (Err (fault.Duplicate name)) = ⊥
FromDocument None (Err fault.NoMemory) = ⊤
