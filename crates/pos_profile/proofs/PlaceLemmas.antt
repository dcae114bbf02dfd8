-- The index of a registry finds each name at its first place.
use Rattle.pos_profile.proofs.Common.{Bool, IfSome, List, None, Option, Planned, Some, [], ap, arith, bytes_eq}
use Rattle.pos_profile.proofs.Common.{common_steps, cond, false, false≢true, first_of, get_or, gets, is_some, length}
use Rattle.pos_profile.proofs.Common.{lookup, map, place_from, place_of, refl, slice_get, slice_get-map}
use Rattle.pos_profile.proofs.Common.{slice_get_within, suc, sym, take, true, where_same, ℕ, ◌++◌, ◌+◌, ◌<◌, ◌∷◌, ◌≡◌}
use Rattle.std.proofs.lemmas.Option.{same_Some}
use Rattle.std.proofs.lemmas.Slice.Eq.{bytes_eq-Decides}
use Rattle.pos_profile.proofs.ListLemmas.{take_next}

-- the place of a name in a list with one more name
place_longer : (at : ℕ) (name : List ℕ) (names : List (List ℕ)) (noted : List ℕ) (end : ℕ) → end ≡ at + length names
    → place_from at name (names ++ noted ∷ []) ≡ first_of (place_from at name names) (where_same name noted end)
place_longer at name [] noted end is = grind arith
place_longer at name (first ∷ names) noted end is =
    grind (arith, place_longer (at + 1) name names noted end (omega (arith, is)))

-- the place of a name among one more of a list's names
pub place_more : (names : List (List ℕ)) (place : ℕ) (noted : List ℕ) → slice_get names place ≡ Some noted
    → (name : List ℕ)
    → place_of (take (place + 1) names) name ≡ first_of (place_of (take place names) name) (where_same name noted place)
place_more names place noted at name = rw (take_next names place noted at)
    (place_longer 0 name (take place names) noted place (grind (arith, common_steps, slice_get_within)))

-- a place that is found is one of the list
place_bound : (at : ℕ) (name : List ℕ) (names : List (List ℕ))
    → IfSome (place_from at name names) (λ place. place < at + length names)
place_bound at name [] = tt
place_bound at name (first ∷ names) = grind (arith, place_bound (at + 1) name names)

pub place_within : (names : List (List ℕ)) (name : List ℕ) {place : ℕ} → place_of names name ≡ Some place
    → place < length names
place_within names name found = let bound = rw found at (place_bound 0 name names) in omega (arith, bound)

-- a name that has a place is there: it is the first one, or is among the others
there_else : (same : Bool) (at : ℕ) (name first : List ℕ) (names : List (List ℕ)) (place : ℕ)
    → bytes_eq name first ≡ same
    → (place_from (at + 1) name names ≡ Some place → (i : ℕ) × (place ≡ (at + 1) + i) × (slice_get names i ≡ Some name))
    → cond same (Some at) (place_from (at + 1) name names) ≡ Some place
    → (i : ℕ) × (place ≡ at + i) × (slice_get (first ∷ names) i ≡ Some name)
there_else true at name first names place same else found =
    let here = same_Some at place found in
    (0, omega (arith, here), ap (λ (n : List ℕ). Some n) (sym ((bytes_eq-Decides name first).0 same)))
there_else false at name first names place same else found =
    let later = else found in
    let is = later.1 in
    (suc later.0, omega (arith, is), later.2)

there_from : (at : ℕ) {name : List ℕ} (names : List (List ℕ)) {place : ℕ} → place_from at name names ≡ Some place
    → (i : ℕ) × (place ≡ at + i) × (slice_get names i ≡ Some name)
there_from at [] found = absurd cc
there_from at {name} (first ∷ names) {place} found =
    there_else (bytes_eq name first) at name first names place refl (λ is. there_from (at + 1) names is) found

pub name_there : (names : List (List ℕ)) {name : List ℕ} (place : ℕ) → place_of names name ≡ Some place
    → slice_get names place ≡ Some name
name_there names place found =
    let there = there_from 0 names found in
    let is = there.1 in
    let same : place ≡ there.0 = omega (arith, is) in
    rw same there.2

-- what is found already is found first
found_first : (same : Bool) (place : ℕ) (found : Option ℕ) → (same ≡ true → is_some found ≡ true)
    → found ≡ first_of found (cond same (Some place) None)
found_first same place (Some at) is = refl
found_first false place None is = refl
found_first true place None is = absurd (false≢true (is refl))

-- a name that has a place is noted already
pub already : (found : List ℕ → Option ℕ) (noted : List ℕ) (place : ℕ) → is_some (found noted) ≡ true → (name : List ℕ)
    → found name ≡ first_of (found name) (where_same name noted place)
already found noted place there name = grind (arith, bytes_eq-Decides name noted)

-- a list of entries with one more
pub lookup_more : {K : Type 0} (test : K → Bool) (entries : List (K × ℕ)) (key : K) (place : ℕ)
    → lookup test (entries ++ (key, place) ∷ []) ≡ first_of (lookup test entries) (cond (test key) (Some place) None)
lookup_more test [] key place = refl
lookup_more test (entry ∷ entries) key place = grind (arith, lookup_more test entries key place)

-- the name at a place of a plan
pub planned_name : (plan : List Planned) {place : ℕ} {planned : Planned} → place < length plan
    → planned ≡ get_or plan place planned → slice_get (map (λ (p : Planned). p.name) plan) place ≡ Some planned.name
planned_name plan within at = grind (arith, gets, slice_get-map)
