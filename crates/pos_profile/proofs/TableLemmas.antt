-- A table's keys and values, as the map has them and as the document's members.
use Rattle.pos_profile.proofs.Common.{Bool, Data, Equal, Global, List, Option, Ordering, Some, String, Value, [], arith}
use Rattle.pos_profile.proofs.Common.{data_of, get_member, has_only, is_some, items_view, keys_of, list_all, map}
use Rattle.pos_profile.proofs.Common.{members_view, nat_cmp, refl, string_bytes, true, view, ℕ, ◌∷◌, ◌≡◌}
use Rattle.std.proofs.lemmas.Cmp.{nat_list_cmp_total}
use Rattle.std.specs.Cmp.{tied_itself}
use Rattle.std.specs.Cmp.Lexicographic.{slice_cmp}
use Rattle.std.specs.Ordering.{match_ordering}

-- each key passes a test, in the map and in the document
pub has_only_keys : (test : List ℕ → Bool) (entries : List (String Global × Value))
    → list_all (λ key. test (string_bytes key)) (keys_of entries) ≡ has_only test (members_view entries)
has_only_keys test [] = refl
has_only_keys test (entry ∷ entries) = rw (has_only_keys test entries)

-- an array's items as a list
pub data_of_values : (values : List Value) → map view values ≡ data_of (items_view values)
data_of_values [] = refl
data_of_values (value ∷ values) = cc (data_of_values values)

-- what is found stays found behind one more member
found_after : (order : Ordering) (found : Option Data) (first : Data) → is_some found ≡ true
    → is_some (match_ordering order found (Some first) found) ≡ true
found_after order found first is = grind arith

-- all pass a weaker test
all_weaken : {A : Type 0} (test weaker : A → Bool) (xs : List A) → ((x : A) → test x ≡ true → weaker x ≡ true)
    → list_all test xs ≡ true → list_all weaker xs ≡ true
all_weaken test weaker [] weakens all = refl
all_weaken test weaker (x ∷ xs) weakens all = grind (arith, weakens x, all_weaken test weaker xs weakens)

-- each key of the map is found in the document
pub keys_there : (entries : List (String Global × Value))
    → list_all (λ key. is_some (get_member (string_bytes key) (members_view entries))) (keys_of entries) ≡ true
keys_there [] = refl
keys_there (entry ∷ entries) =
    let first = string_bytes entry.0 in
    let same : slice_cmp nat_cmp first first ≡ Equal = tied_itself nat_list_cmp_total first in
    rw same (all_weaken (λ key. is_some (get_member (string_bytes key) (members_view entries)))
    (λ key. is_some (get_member (string_bytes key) (members_view (entry ∷ entries)))) (keys_of entries)
    (λ key is. found_after (slice_cmp nat_cmp (string_bytes key) first) (get_member (string_bytes key)
    (members_view entries)) (view entry.1) is) (keys_there entries))
