-- The records of a log, as the span behind an image holds them. Numbers are big-endian. docs/reference/totals-file.md,
-- "The log".
use Rattle.std.specs.Prelude.{◌≡◌, ◌⊎◌, ◌+◌, ◌<◌, ◌≤◌, ◌^◌, ℕ, List, [], ◌∷◌, ◌++◌, length, take, true, false}
use Rattle.std.specs.Int.{w32, to_be_bytes}
use Rattle.std.specs.List.{AllByRecursion, flat_map}
use Rattle.pos_disk.specs.State.{part}
use Rattle.pos_image.specs.Layout.{is_open, open_gate, log_place}
use Rattle.pos_image.specs.declared.layout.Layout.{Layout}

-- a record: an open gate, the length of its group in four bytes, and the group
abbrev pub record_spelling : List ℕ → List ℕ
record_spelling group = open_gate ∷ (to_be_bytes w32 (length group) ++ group)

-- what stands behind the gate of a record as it is written: length and group, and a closed gate for the next record
abbrev pub text_behind_gate : List ℕ → List ℕ
text_behind_gate group = to_be_bytes w32 (length group) ++ (group ++ 0 ∷ [])

-- records, one behind the other
abbrev pub spelling : List (List ℕ) → List ℕ
spelling groups = flat_map record_spelling groups

-- a group whose length has four bytes
abbrev pub IsShort : List ℕ → Type 0
IsShort group = length group < 2 ^ 32

-- The span begins with the records of these groups, and the gate behind the last one is closed.
pub record HoldsRecords (groups : List (List ℕ)) (span : List ℕ) : Type 0 where
  pub short : AllByRecursion IsShort groups
  pub front : take (length (spelling groups)) span ≡ spelling groups
  pub inside : length (spelling groups) < length span
  pub behind : is_open span (length (spelling groups)) ≡ false

-- the span holds records, or none: else it is damaged, and BreaksAt says where
abbrev pub HoldsSome : List ℕ → Type 0
HoldsSome span = (groups : List (List ℕ)) × HoldsRecords groups span

-- new has the records of old, and behind them one with this group
abbrev pub HoldsMore : List ℕ → List ℕ → List ℕ → Type 0
HoldsMore old group new = (groups : List (List ℕ)) → HoldsRecords groups old → HoldsRecords (groups ++ group ∷ []) new

-- new has the records of old, with one with this group behind them or without
abbrev pub HoldsOldOrMore : List ℕ → List ℕ → List ℕ → Type 0
HoldsOldOrMore old group new =
    (groups : List (List ℕ)) → HoldsRecords groups old
    → HoldsRecords groups new ⊎ HoldsRecords (groups ++ group ∷ []) new

-- where the gate behind these records stands in its slot, by its layout
abbrev pub tail_of : Layout → List (List ℕ) → ℕ
tail_of layout groups = log_place layout + length (spelling groups)

-- the first place behind a record with a group of n bytes at this place, and behind the gate that follows it
abbrev pub end_of : ℕ → ℕ → ℕ
end_of at n = at + 6 + n

-- the record at this place of a span has a group of this length, and fits with the gate behind it
pub record HasLength (span : List ℕ) (at n : ℕ) : Type 0 where
  pub few : n < 2 ^ 32
  pub length_is : part (at + 1) 4 span ≡ to_be_bytes w32 n
  pub fits : end_of at n ≤ length span

-- the span begins with the records of these groups, which end at this place
pub record BeginsWith (groups : List (List ℕ)) (at : ℕ) (span : List ℕ) : Type 0 where
  pub short : AllByRecursion IsShort groups
  pub end_is : at ≡ length (spelling groups)
  pub front : take at span ≡ spelling groups
  pub inside : at < length span

-- The span begins with some records, and at this place behind them is an open gate whose record doesn't fit.
pub record BreaksAt (span : List ℕ) (at : ℕ) : Type 0 where
  pub groups : List (List ℕ)
  pub begins : BeginsWith groups at span
  pub gate : is_open span at ≡ true
  pub long : (n : ℕ) → ¬ (HasLength span at n)
