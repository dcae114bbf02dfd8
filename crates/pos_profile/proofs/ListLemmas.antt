-- Reading a list of a profile, entry by entry.
use Rattle.pos_profile.proofs.Common.{Bool, Bor, Data, Entry, IsFlawedList, IsFlawedValue, IsSoundList, List, None}
use Rattle.pos_profile.proofs.Common.{Option, Reason, Role, Some, Value, [], and_parts, arith, bytes_eq, common_steps}
use Rattle.pos_profile.proofs.Common.{entry_of, false, get_or, gets, is_refused, is_refused_after, is_repeated}
use Rattle.pos_profile.proofs.Common.{is_totals, is_totals_entry, length, length-map, list_any, map, map-append}
use Rattle.pos_profile.proofs.Common.{names_of, not, refl, slice_get, slice_get-map, slice_get_past, slice_get_within}
use Rattle.pos_profile.proofs.Common.{sym, take, take_all, true, view, ℕ, ◌++◌, ◌+◌, ◌<◌, ◌^◌, ◌∙◌, ◌∷◌, ◌≡◌, ◌≤◌}
use Rattle.indexmap.specs.IndexSet.{insert_key}
use Rattle.pos_profile.specs.declared.mistake.Reason.TheVariants.{SecondHardTotals}

-- the front of a list with the next element
pub take_next : {A : Type 0} (xs : List A) (place : ℕ) (x : A) → slice_get xs place ≡ Some x
    → take (place + 1) xs ≡ take place xs ++ x ∷ []
take_next xs place x at = grind (arith, common_steps, gets, slice_get_within)

-- a test of what is made of some elements
pub any_mapped : {A B : Type 0} (test : B → Bool) (f : A → B) (xs : List A)
    → list_any test (map f xs) ≡ list_any (λ x. test (f x)) xs
any_mapped test f [] = refl
any_mapped test f (x ∷ xs) = rw (any_mapped test f xs)

-- a place that passes a test is before those of which none does
pub before_end : (test : ℕ → Bool) (count place : ℕ) → ((n : ℕ) → count ≤ n → test n ≡ false) → test place ≡ true
    → place < count
before_end test count place past is = grind (arith, past place)

-- no place past the end is refused
pub none_past : (found : List (Option Entry)) (place : ℕ) → length found ≤ place → is_refused found place ≡ false
none_past found place past = rw (slice_get_past found place past)

-- the value at a place of a list
pub value_at : (items : List Value) {place : ℕ} {item : Value} → place < length items → item ≡ get_or items place item
    → slice_get (map view items) place ≡ Some (view item)
value_at items within at = grind (arith, gets, slice_get-map)

module _ (role : Role) (values : List Data) (place : ℕ) (value : Data) (at : slice_get values place ≡ Some value)
    (before : (n : ℕ) → n < place → is_refused (map (entry_of role) values) n ≡ false) where
  entry_at : (next : Option Entry) → entry_of role value ≡ next
      → slice_get (map (entry_of role) values) place ≡ Some next
  entry_at next is = rw (slice_get-map (entry_of role) values place, at, is)

  -- the first value that isn't sound by itself
  pub flawed_at : (why : Reason) → IsFlawedValue role value why → place < 2 ^ 62 → IsFlawedList role values place why
  flawed_at why flawed small = grind (arith, at, entry_at None)

  module _ (entry : Entry) (is : entry_of role value ≡ Some entry) (read : List Entry)
      (so_far : map (λ entry. Some entry) read ≡ take place (map (entry_of role) values)) where
    -- the first value that is a second one of Hard Totals
    pub second_at : is_refused_after (map (λ entry. Some entry) read) (Some (Some entry)) ≡ true → place < 2 ^ 62
        → IsFlawedList role values place SecondHardTotals
    second_at refused small =
        let parts =
        and_parts (is_totals entry.category) (list_any is_totals_entry (map (λ entry. Some entry) read)) refused in
        record {
          lowest = grind (arith, entry_at (Some entry));
          has = rw (at, is, ← so_far) parts;
          small = small;
        }

    -- one more entry, which isn't refused
    pub taken : map (λ e. Some e) (read ++ entry ∷ []) ≡ take (place + 1) (map (entry_of role) values)
    taken = grind (arith, map-append, take_next, entry_at (Some entry))

    pub goes_on : is_refused_after (map (λ entry. Some entry) read) (Some (Some entry)) ≡ false → (n : ℕ)
        → n < place + 1 → is_refused (map (entry_of role) values) n ≡ false
    goes_on refused n less = grind (arith, entry_at (Some entry), before n)

-- a test that nothing passes up to a place behind the last passes nowhere
none_passes : (test : ℕ → Bool) (count place : ℕ) → ((n : ℕ) → count ≤ n → test n ≡ false) → count ≤ place
    → ((n : ℕ) → n < place → test n ≡ false) → (n : ℕ) → test n ≡ false
none_passes test count place past end below n = grind (arith, below n, past n)

-- all entries were read
pub all_read : {role : Role} {values : List Data} {read : List Entry} {place : ℕ} → length values ≤ place
    → map (λ entry. Some entry) read ≡ take place (map (entry_of role) values)
    → ((n : ℕ) → n < place → is_refused (map (entry_of role) values) n ≡ false) → IsSoundList role values read
all_read {role} {values} {place} past so_far sound =
    let found = map (entry_of role) values in
    let end : length found ≤ place = omega (arith, length-map values (entry_of role)) in
    record {
      entries = sym (so_far ∙ take_all place found end);
      sound = none_passes (is_refused found) (length found) place (none_past found) end sound;
    }

-- what a set of the names so far says of the next
module _ (lent : Bor (List ℕ)) (keys : List (Bor (List ℕ))) (names : List (List ℕ)) (place : ℕ)
    (so_far : map (λ (name : Bor (List ℕ)). name.now) keys ≡ take place names)
    (at : slice_get names place ≡ Some lent.now) (is_new : Bool)
    (added : is_new ≡ not (list_any (λ (other : Bor (List ℕ)). bytes_eq lent.now other.now) keys)) where
  pub repeated_at : is_repeated names place ≡ not is_new
  repeated_at = grind (arith, any_mapped)

  -- it gets one more
  pub names_taken : is_new ≡ true → map (λ (name : Bor (List ℕ)). name.now)
      (insert_key (λ q k. bytes_eq q.now k.now) keys lent) ≡ take (place + 1) names
  names_taken is = grind (arith, map-append, take_next)

-- the name at a place of a list of entries
pub name_at : (entries : List Entry) (place : ℕ) (entry : Entry) (name : List ℕ) → place < length entries
    → entry ≡ get_or entries place entry → name ≡ entry.name → slice_get (names_of entries) place ≡ Some name
name_at entries place entry name within at is = grind (arith, gets, slice_get-map)

-- no name past the end is repeated
none_repeated : (names : List (List ℕ)) (place : ℕ) → length names ≤ place → is_repeated names place ≡ false
none_repeated names place past = rw (slice_get_past names place past)

-- no name is repeated
pub all_single : (names : List (List ℕ)) (place : ℕ) → length names ≤ place
    → ((n : ℕ) → n < place → is_repeated names n ≡ false) → (n : ℕ) → is_repeated names n ≡ false
all_single names place past single =
    none_passes (is_repeated names) (length names) place (none_repeated names) past single

-- a repeated place is one of the list
pub repeated_within : (names : List (List ℕ)) (place : ℕ) → is_repeated names place ≡ true → place < length names
repeated_within names place repeated =
    before_end (is_repeated names) (length names) place (none_repeated names) repeated
