-- The entries of a profile, what is simulated for them in its wrappers, and the spares.
use Rattle.pos_run.proofs.Common.{All, Bool, Category, Entry, HoldsOnlyIf, IsDeviceFor, IsInService, IsSimulable, Kind}
use Rattle.pos_run.proofs.Common.{List, None, Option, PeripheralState, Some, Wrapped, [], ap, arith, false, get_or}
use Rattle.pos_run.proofs.Common.{kind_of, length, map-append, min, new_device, refl, simulated_all, simulated_for}
use Rattle.pos_run.proofs.Common.{state_of, subst, sym, take, take_more, true, wrapped_by, wrapped_state, ℕ, ◌++◌, ◌+◌}
use Rattle.pos_run.proofs.Common.{◌-◌, ◌<◌, ◌^◌, ◌∙◌, ◌∷◌, ◌≡◌, ◌≤◌}
use Rattle.pos_profile.specs.Numbers.{has_number}
use Rattle.pos_profile.specs.Soundness.{IsInItsRange, IsSoundEntry}
use Rattle.pos_profile.specs.declared.number.NumberKey.TheVariants.{Lines}
use Rattle.pos_profile.specs.declared.optional.OptionalKey.TheVariants.{Ring}
use Rattle.pos_profile.specs.declared.entry.Role.{Role}
use Rattle.pos_run.specs.declared.simulation.Simulation.{Simulation}
use Rattle.pos_service.specs.declared.category.Category.TheVariants.{PosPrinter}
use Rattle.pos_service.specs.declared.plant.Plant.{Plant}
use Rattle.std.proofs.lemmas.List.Elements.{All-map}
use Rattle.std.proofs.lemmas.Option.{same_Some}
use Rattle.std.specs.Option.{option_map}

module _ (entries : List Entry) (i : ℕ) (entry : Entry) (lt : i < length entries)
    (is : entry ≡ get_or entries i entry) where
  -- the entries up to this one
  pub one_more : take (i + 1) entries ≡ take i entries ++ entry ∷ []
  one_more = take_more entries i entry lt ∙ ap (λ (e : Entry). take i entries ++ e ∷ []) (sym is)

  -- one more spare is there
  pub spares_more : (front : List (Option PeripheralState)) (spare : Option PeripheralState)
      → front ≡ simulated_all (take i entries) → spare ≡ simulated_for entry
      → front ++ spare ∷ [] ≡ simulated_all (take (i + 1) entries)
  spares_more front spare so_far same =
      rw (so_far, same, one_more, map-append simulated_for (take i entries) (entry ∷ []))

-- what is simulated is in service, was given no order yet, and its line has never failed
new_serves : (kind : Option Kind) (lines : ℕ) → IsInService (option_map (λ is. new_device is lines) kind)
new_serves kind lines = grind arith

new_is_fresh : (kind : Option Kind) (lines : ℕ) {state : PeripheralState}
    → Some state ≡ option_map (λ is. new_device is lines) kind → state.orders ≡ 0
new_is_fresh kind lines is = grind arith

pub state_is_fresh : (entry : Entry) (state : PeripheralState) → Some state ≡ simulated_for entry → state.orders ≡ 0
state_is_fresh entry state is = new_is_fresh (kind_of entry) entry.lines is

new_never_failed : (kind : Option Kind) (lines : ℕ) {state : PeripheralState}
    → Some state ≡ option_map (λ is. new_device is lines) kind → state.failures ≡ 0
new_never_failed kind lines is = grind arith

pub state_never_failed : (entry : Entry) (state : PeripheralState) → Some state ≡ simulated_for entry
    → state.failures ≡ 0
state_never_failed entry state is = new_never_failed (kind_of entry) entry.lines is

pub all_serve : (entries : List Entry) → All IsInService (simulated_all entries)
all_serve entries = All-map IsInService simulated_for entries
    (λ k entry lt. new_serves (kind_of (get_or entries k entry)) (get_or entries k entry).lines)

-- the lines of paper are in their range
lines_within : (category : Category) {lines : ℕ} → IsInItsRange Lines (has_number category Lines) lines → lines ≤ 100000
lines_within PosPrinter within = within.1
lines_within _ none = omega (arith, none)

-- an entry has a ring only where its category may have one
only_if : {may holds : Bool} → (holds ≡ true → may ≡ true) → HoldsOnlyIf may holds
only_if is = grind arith

pub simulable : {role : Role} (entries : List Entry) {i : ℕ} {entry : Entry} → All (IsSoundEntry role) entries
    → i < length entries → entry ≡ get_or entries i entry → IsSimulable entry
simulable {role} entries {i} {entry} sound lt is =
    let one : IsSoundEntry role entry = subst (IsSoundEntry role) (sym is) (sound i entry lt) in
    record {
      kind = one.kind;
      lines = lines_within entry.category (one.numbers Lines);
      ring = only_if (one.options Ring);
    }

-- a state as wrappers that have counted nothing show it
abbrev behind : Option (ℕ × ℕ) → Bool → PeripheralState → PeripheralState
behind None false state = state
behind None true state = record state { orders = 0 }
behind (Some asks) recorded state = record state { failures = min (state.failures + 0) (2 ^ 64 - 1); orders = 0 }

is_behind : (flaky : Option (ℕ × ℕ)) (recorded : Bool) (device : Simulation)
    → wrapped_state (wrapped_by flaky recorded device) ≡ behind flaky recorded (state_of device)
is_behind None false device = refl
is_behind None true device = refl
is_behind (Some asks) false device = refl
is_behind (Some asks) true device = refl

-- a state that has counted nothing is the same there
same_behind : (flaky : Option (ℕ × ℕ)) (recorded : Bool) (kind : Kind) (plant : Plant) (is_parked : Bool)
    → let state : PeripheralState =
    record { kind = kind; plant = plant; is_parked = is_parked; failures = 0; orders = 0 } in
    behind flaky recorded state ≡ state
same_behind None false kind plant is_parked = refl
same_behind None true kind plant is_parked = refl
same_behind (Some asks) recorded kind plant is_parked = refl

begins_behind : (flaky : Option (ℕ × ℕ)) (recorded : Bool) (kind : Option Kind) (lines : ℕ) (state : PeripheralState)
    → Some state ≡ option_map (λ is. new_device is lines) kind → behind flaky recorded state ≡ state
begins_behind flaky recorded None lines state is = absurd cc
begins_behind flaky recorded (Some kind) lines state is = rw (same_Some state (new_device kind lines) is)
    (same_behind flaky recorded kind (new_device kind lines).plant false)

-- what an entry's wrappers have in them is what is simulated for it
pub wrapped_begins : (entry : Entry) (device : Simulation) → Some (state_of device) ≡ simulated_for entry
    → Some (wrapped_state (wrapped_by entry.flaky entry.recorded device)) ≡ simulated_for entry
wrapped_begins entry device is = rw (
  is_behind entry.flaky entry.recorded device,
  begins_behind entry.flaky entry.recorded (kind_of entry) entry.lines (state_of device) is,
) is

module _ (entry : Entry) (device : Simulation) (made : Wrapped) (simulates : IsDeviceFor entry (Some device))
    (is : made ≡ wrapped_by entry.flaky entry.recorded device) where
  -- a device in its wrappers begins as what is simulated for its entry
  pub simulated_begins : Some (wrapped_state made) ≡ simulated_for entry
  simulated_begins = ap (λ (w : Wrapped). Some (wrapped_state w)) is ∙ wrapped_begins entry device simulates.state
