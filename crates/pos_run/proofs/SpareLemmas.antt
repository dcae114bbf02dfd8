-- The spares, where one is taken or put back.
use Rattle.pos_run.proofs.Common.{All, Ghosts, IfSome, IsEmptyAt, IsInService, List, None, Option, PeripheralState}
use Rattle.pos_run.proofs.Common.{Some, SpareStates, [], ap, arith, false, get_or, get_or-map, length, length-map}
use Rattle.pos_run.proofs.Common.{map-set, option_and_then, option_map, refl, set, slice_get, spare_at, states_in, suc}
use Rattle.pos_run.proofs.Common.{sym, with_spare, zero, ℕ, ◌<◌, ◌∙◌, ◌∷◌, ◌≡◌}
use Rattle.std.proofs.lemmas.List.Elements.{All-set}
use Rattle.std.proofs.lemmas.Option.{slice_get-map, slice_get_read, slice_get_within}

-- an empty place stays one
vacated : (spares : SpareStates) (place : ℕ) → option_and_then (λ spare. spare) (slice_get spares place) ≡ None
    → set spares place None ≡ spares
vacated [] place none = refl
vacated (first ∷ spares) zero none = grind arith
vacated (first ∷ spares) (suc place) none = ap (λ (ss : SpareStates). first ∷ ss) (vacated spares place none)

pub none_taken : (spares : SpareStates) (number : ℕ) → spare_at spares number ≡ None
    → with_spare spares number None ≡ spares
none_taken spares number none = grind (arith, vacated)

-- a spare that is put back is where it was
returned : (spares : SpareStates) (place : ℕ) {state : PeripheralState}
    → option_and_then (λ spare. spare) (slice_get spares place) ≡ Some state
    → set (set spares place None) place (Some state) ≡ spares
returned [] place there = cc
returned (first ∷ spares) zero there = grind arith
returned (first ∷ spares) (suc place) there = ap (λ (ss : SpareStates). first ∷ ss) (returned spares place there)

pub put_back : (spares : SpareStates) (number : ℕ) (state : PeripheralState) → spare_at spares number ≡ Some state
    → with_spare (with_spare spares number None) number (Some state) ≡ spares
put_back spares number state there = grind (arith, returned)

-- the place of one that was taken is empty
emptied : (spares : SpareStates) (place : ℕ) {state : PeripheralState}
    → option_and_then (λ spare. spare) (slice_get spares place) ≡ Some state
    → slice_get (set spares place None) place ≡ Some None
emptied [] place there = cc
emptied (first ∷ spares) zero there = refl
emptied (first ∷ spares) (suc place) there = emptied spares place there

pub empty_taken : (spares : SpareStates) (number : ℕ) {state : PeripheralState} → spare_at spares number ≡ Some state
    → IsEmptyAt (with_spare spares number None) number
empty_taken spares zero there = cc
empty_taken spares (suc place) there = (place, refl, emptied spares place there)

-- the spare of a number is what its place has
pub spare_is : (spares : SpareStates) {number place : ℕ} {spare : Option PeripheralState} → number ≡ suc place
    → slice_get spares place ≡ Some spare → spare_at spares number ≡ spare
spare_is spares is at = ap (spare_at spares) is ∙ ap (option_and_then (λ s. s)) at

pub with_is : (spares : SpareStates) {number place : ℕ} (spare : Option PeripheralState) → number ≡ suc place
    → set spares place spare ≡ with_spare spares number spare
with_is spares spare is = sym (ap (λ n. with_spare spares n spare) is)

module _ {P : Type 0} (peripherals : Ghosts P) (list : List (Option P)) (place : ℕ) where
  -- what is at the place of a box
  pub state_there : {spare : Option P} → place < length list → spare ≡ get_or list place spare
      → slice_get (states_in peripherals list) place ≡ Some (option_map peripherals.state spare)
  state_there {spare} within at = slice_get-map (option_map peripherals.state) list place
      ∙ ap (option_map (option_map peripherals.state)) (slice_get_read list (length list) place spare refl within at)

  -- the box that is there is in service
  serving : (spare : Option P) → IsInService (option_map peripherals.state spare)
      → IfSome spare (λ b. (peripherals.state b).is_parked ≡ false)
  serving None h = tt
  serving (Some b) h = h

  pub serves_there : {spare : Option P} → All IsInService (states_in peripherals list) → place < length list
      → spare ≡ get_or list place spare → IfSome spare (λ b. (peripherals.state b).is_parked ≡ false)
  serves_there {spare} all within at =
      let count : length (states_in peripherals list) ≡ length list = length-map list (option_map peripherals.state) in
      let there : get_or (states_in peripherals list) place (option_map peripherals.state spare)
      ≡ option_map peripherals.state spare =
      get_or-map (option_map peripherals.state) list place spare (option_map peripherals.state spare) within
      ∙ ap (option_map peripherals.state) (sym at) in
      serving spare (rw there at (all place (option_map peripherals.state spare) (omega (arith, count, within))))

  -- another box, or none, is put there
  pub states_set : (spare : Option P) → states_in peripherals
      (set list place spare) ≡ set (states_in peripherals list) place (option_map peripherals.state spare)
  states_set spare = map-set (option_map peripherals.state) list place spare

  pub service_set : (spare : Option P) → All IsInService (states_in peripherals list)
      → IsInService (option_map peripherals.state spare)
      → All IsInService (states_in peripherals (set list place spare))
  service_set spare all one = rw (states_set spare)
      (All-set IsInService (states_in peripherals list) place (option_map peripherals.state spare) one all)

  -- the place of a number that is empty has no box
  pub no_box : {number : ℕ} {spare : Option P} {other : P} → number ≡ suc place
      → IsEmptyAt (states_in peripherals list) number → spare ≡ get_or list place spare → spare ≡ Some other → ⊥
  no_box {other} is (empty, same, none) at some =
      let count : length (states_in peripherals list) ≡ length list = length-map list (option_map peripherals.state) in
      let within : place < length list =
      omega (arith, is, same, count, slice_get_within (states_in peripherals list) empty None none) in
      let here : slice_get (states_in peripherals list) place ≡ Some None =
      rw (let e : place ≡ empty = omega (arith, is, same) in e) none in
      let full : slice_get (states_in peripherals list) place ≡ Some (Some (peripherals.state other)) =
      state_there within at ∙ ap (λ (o : Option P). Some (option_map peripherals.state o)) some in
      cc
