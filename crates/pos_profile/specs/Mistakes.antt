-- What isn't sound in a document, and why (docs/reference/profile.md).
use Rattle.std.specs.Prelude.{◌≡◌, ◌<◌, ◌+◌, ◌^◌, ℕ, zero, suc, List, Option, Some, None, true, false, IsSomeAnd}
use Rattle.std.specs.Prelude.{Result, Ok, Err, map, slice_get, take, length, Vec, ⊤}
use Rattle.std.specs.List.{list_any}
use Rattle.std.specs.declared.alloc.Global.{Global}
use Rattle.toml.specs.Data.{Data, Members, as_table, get_member}
use Rattle.pos_profile.specs.declared.entry.Entry.{Entry}
use Rattle.pos_profile.specs.declared.mistake.Mistake.{Mistake}
use Rattle.pos_profile.specs.declared.mistake.Place.{Place}
use Rattle.pos_profile.specs.declared.mistake.Place.TheVariants.{Root, Listed}
use Rattle.pos_profile.specs.declared.mistake.Reason.{Reason}
use Rattle.pos_profile.specs.declared.mistake.Reason.TheVariants as reason
use Rattle.pos_profile.specs.declared.entry.Role.{Role}
use Rattle.pos_profile.specs.declared.entry.Role.TheVariants.{Device, Spare}
use Rattle.pos_profile.specs.declared.entry_reader.EntryFault.{EntryFault}
use Rattle.pos_profile.specs.declared.entry_reader.EntryFault.TheVariants as entry
use Rattle.pos_profile.specs.declared.entry_list.ListFault.{ListFault}
use Rattle.pos_profile.specs.declared.entry_list.ListFault.TheVariants as list
use Rattle.pos_profile.specs.declared.root.DocumentFault.{DocumentFault}
use Rattle.pos_profile.specs.declared.root.DocumentFault.TheVariants as document
use Rattle.pos_profile.specs.declared.root.Lists.{Lists}
use Rattle.pos_profile.specs.declared.table.Keys.TheVariants.{OfRoot, OfEntry}
use Rattle.pos_profile.specs.Categories.{is_totals}
use Rattle.pos_profile.specs.Entries.{Contents, IsBadNumber, IsBadOption, entry_of, table_entry}
use Rattle.pos_profile.specs.Profiles.{IsLowest, IsRead, is_faulty, is_refused, is_root, is_totals_entry}
use Rattle.pos_profile.specs.Tables.{IsUnknown, category_for, is_key, is_list, key_of, name_for, values_at}

-- what is wrong with a table as an entry of a list
abbrev pub TableHas : Role → Members → Reason → Type 0
TableHas role table (reason.BadCategory of) = (of ≡ role) × (category_for role table ≡ None)
TableHas role table reason.BadName = name_for role table ≡ None
TableHas role table (reason.BadNumber number) =
    IsSomeAnd (category_for role table) (λ category. IsBadNumber category table number)
TableHas role table (reason.BadOption key) =
    IsSomeAnd (category_for role table) (λ category. IsBadOption category table key)
TableHas role table (reason.UnknownKey key) =
    IsSomeAnd (category_for role table) (λ category. IsUnknown (is_key (OfEntry role category)) table key)
TableHas role table (reason.NotAnArray of) = ⊥
TableHas role table reason.NotATable = ⊥
TableHas role table reason.SecondHardTotals = ⊥

-- what is wrong with a value as an entry of a list, behind earlier entries
abbrev pub ValueHas : Role → List (Option Entry) → Data → Reason → Type 0
ValueHas role earlier value reason.NotATable = as_table value ≡ None
ValueHas role earlier value reason.SecondHardTotals =
    IsSomeAnd (entry_of role value) (λ found. is_totals found.category ≡ true)
    × (list_any is_totals_entry earlier ≡ true)
ValueHas role earlier value other = IsSomeAnd (as_table value) (λ table. TableHas role table other)

-- what is wrong with the value at a place of a list
abbrev pub ListHas : Role → List Data → ℕ → Reason → Type 0
ListHas role values place why =
    IsSomeAnd (slice_get values place) (λ value. ValueHas role (take place (map (entry_of role) values)) value why)

-- what is wrong with the root
abbrev pub RootHas : Members → Reason → Type 0
RootHas root (reason.NotAnArray role) = is_list (get_member (key_of role) root) ≡ false
RootHas root (reason.UnknownKey key) = IsUnknown (is_key OfRoot) root key
RootHas root other = ⊥

-- what is wrong at a place of the document; entries are counted from 1
abbrev pub Has : Members → Place → Reason → Type 0
Has root Root why = RootHas root why
Has root (Listed role zero) why = ⊥
Has root (Listed role (suc place)) why = ListHas role (values_at (key_of role) root) place why

-- the number of a place among all: 0 is the root, spares follow the devices
abbrev pub number_of : Members → Place → ℕ
number_of root Root = 0
number_of root (Listed Device number) = number
number_of root (Listed Spare number) = length (values_at (key_of Device) root) + number

-- the lowest number that is faulty, the place that has it, and what is wrong there
pub record IsMistake (root : Members) (mistake : Mistake) : Type 0 where
  pub lowest : IsLowest (is_faulty root) mistake.number
  pub number : mistake.number ≡ number_of root mistake.place
  pub has : Has root mistake.place mistake.reason

-- the mistake at a place of a list, counted from 0, behind so many entries of other lists
abbrev pub mistake_at : ℕ → Role → ℕ → Reason → Mistake
mistake_at before role place why =
    record { number = before + place + 1; place = Listed role (place + 1); reason = why }

-- what a user is told of a document, if there is one: its first mistake, or nothing where none of it is faulty
abbrev pub Explains : Option Members → Option Mistake → Type 0
Explains None None = ⊤
Explains None (Some mistake) = ⊥
Explains (Some root) None = (number : ℕ) → is_faulty root number ≡ false
Explains (Some root) (Some mistake) = IsMistake root mistake

-- the table is no sound entry, for this reason
pub record IsFlawedTable (role : Role) (table : Members) (why : Reason) : Type 0 where
  pub unsound : table_entry role table ≡ None
  pub has : TableHas role table why

-- what reading a table gives: the entry that it is, or what is wrong
abbrev pub ReadsTable : Role → Members → Result Entry EntryFault → Type 0
ReadsTable role table (Ok found) = table_entry role table ≡ Some found
ReadsTable role table (Err (entry.Flawed why)) = IsFlawedTable role table why
ReadsTable role table (Err entry.NoMemory) = ⊤

-- the value is no sound entry, for this reason
pub record IsFlawedValue (role : Role) (value : Data) (why : Reason) : Type 0 where
  pub unsound : entry_of role value ≡ None
  pub has : (earlier : List (Option Entry)) → ValueHas role earlier value why

-- what reading a value gives: the entry that it is, or what is wrong with it by itself
abbrev pub ReadsValue : Role → Data → Result Entry EntryFault → Type 0
ReadsValue role value (Ok found) = entry_of role value ≡ Some found
ReadsValue role value (Err (entry.Flawed why)) = IsFlawedValue role value why
ReadsValue role value (Err entry.NoMemory) = ⊤

-- the first place of a list that is refused, a place in memory, and why
pub record IsFlawedList (role : Role) (values : List Data) (place : ℕ) (why : Reason) : Type 0 where
  pub lowest : IsLowest (is_refused (map (entry_of role) values)) place
  pub has : ListHas role values place why
  pub small : place < 2 ^ 62

-- the entries of a list, each sound
pub record IsSoundList (role : Role) (values : List Data) (found : List Entry) : Type 0 where
  pub entries : map (entry_of role) values ≡ map Some found
  pub sound : (place : ℕ) → is_refused (map (entry_of role) values) place ≡ false

-- what reading a list gives: its entries, or the first place that is refused
abbrev pub ReadsList : Role → List Data → Result (Vec Entry Global) ListFault → Type 0
ReadsList role values (Ok read) = IsSoundList role values read.items
ReadsList role values (Err (list.Flawed flaw)) = IsFlawedList role values flaw.place flaw.reason
ReadsList role values (Err list.NoMemory) = ⊤

-- what looking at the root gives: it is sound, or what is wrong
abbrev pub ChecksRoot : {U : Type 0} → Members → Result U EntryFault → Type 0
ChecksRoot root (Ok done) = is_root root ≡ true
ChecksRoot root (Err (entry.Flawed why)) = (is_root root ≡ false) × RootHas root why
ChecksRoot root (Err entry.NoMemory) = ⊤

-- the lists as contents
abbrev pub contents_of : Lists → Contents
contents_of lists = record { devices = lists.devices.items; spares = lists.spares.items }

-- what reading a document gives: its lists, or its first mistake
abbrev pub ReadsDocument : Members → Result Lists DocumentFault → Type 0
ReadsDocument root (Ok lists) = IsRead root (contents_of lists)
ReadsDocument root (Err (document.Mistaken mistake)) = IsMistake root mistake
ReadsDocument root (Err document.NoMemory) = ⊤
