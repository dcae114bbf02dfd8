-- The places of a registry's devices by their names.
use Rattle.std.specs.Prelude.{◌≡◌, ◌+◌, ℕ, List, [], ◌∷◌, Option, Some, None, Vec, bytes_eq, if◌then◌else◌}
use Rattle.std.specs.declared.alloc.Global.{Global}
use Rattle.pos_profile.specs.declared.places.Places.{Places}
use Rattle.indexmap.specs.IndexMap.{IndexMap, get_by}

-- the place of the first name that is this one, in a list that begins at a place
abbrev pub place_from : ℕ → List ℕ → List (List ℕ) → Option ℕ
place_from at name [] = None
place_from at name (first ∷ names) = if bytes_eq name first then Some at else place_from (at + 1) name names

-- the place of the first name of a list that is this one
abbrev pub place_of : List (List ℕ) → List ℕ → Option ℕ
place_of names name = place_from 0 name names

-- what the map finds under a name
abbrev pub looked_up : {S : Type 0} → IndexMap (Vec ℕ Global) ℕ S → List ℕ → Option ℕ
looked_up places name = get_by (λ key. bytes_eq name key.items) places

-- what the index finds under a name
abbrev pub found_in : Places → List ℕ → Option ℕ
found_in index name = looked_up index.places name

-- the index has the place of each name of a list, and nothing else
abbrev pub IsIndexOf : Places → List (List ℕ) → Type 0
IsIndexOf index names = (name : List ℕ) → found_in index name ≡ place_of names name

-- the first of two places, if there is one
abbrev pub first_of : Option ℕ → Option ℕ → Option ℕ
first_of (Some place) later = Some place
first_of None later = later

-- the place where the names agree
abbrev pub where_same : List ℕ → List ℕ → ℕ → Option ℕ
where_same name other place = if bytes_eq name other then Some place else None

-- the map finds under each name what it found, else the place noted
abbrev pub IsNoted : {S : Type 0} → IndexMap (Vec ℕ Global) ℕ S → List ℕ → ℕ → IndexMap (Vec ℕ Global) ℕ S → Type 0
IsNoted old noted place new =
    (name : List ℕ) → looked_up new name ≡ first_of (looked_up old name) (where_same name noted place)
