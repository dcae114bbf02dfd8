-- The devices of a registry, where the peripheral of one changes.
use Rattle.pos_profile.proofs.Common.{AllByRecursion, Device, Entry, HasKindInRange, IfSome, IsInRange, []}
use Rattle.pos_profile.proofs.Common.{IsIndexOf, IsPut, IsRegistrySound, IsServed, IsSoundEntry, List}
use Rattle.pos_profile.proofs.Common.{MayServe, None, Option, PeripheralState, Planned, Some, ap, arith}
use Rattle.pos_profile.proofs.Common.{common_steps, cons_option, device_of, devices, devices_of, drop, get_or}
use Rattle.pos_profile.proofs.Common.{get_or-map, gets, is_some, kind_of, length, length-map, map, map-set, parked}
use Rattle.pos_profile.proofs.Common.{place_of, planned_for, planned_of, refl, set, slice_get, slice_get-map}
use Rattle.pos_profile.proofs.Common.{slice_get_past, standing_at, suc, sym, take, take_more, true, vacant}
use Rattle.pos_profile.proofs.Common.{vacant_devices, with_peripheral, zero, ℕ, ◌++◌, ◌+◌, ◌<◌, ◌∙◌, ◌∷◌, ◌≡◌, ◌≤◌}
use Rattle.pos_profile.proofs.PlaceLemmas.{name_there}
use Rattle.pos_profile.specs.Registries.{AreParked, names_of, parked_state}
use Rattle.std.proofs.lemmas.Simd.{map-map}
use Rattle.pos_profile.specs.declared.registry.Registry.{Registry}
use Rattle.pos_profile.specs.declared.slot.Slot.{Slot}
use Rattle.pos_service.specs.declared.kind.Kind.{Kind}
use Rattle.pos_service.specs.declared.peripheral.Peripheral.{Ghosts}
use Rattle.std.proofs.lemmas.List.Edits.{map_over_more}
use Rattle.std.proofs.lemmas.List.Elements.{All-map, filter_map-append, recursion_from_All}
use Rattle.std.proofs.lemmas.Option.{same_Some}
use Rattle.std.specs.List.{All}
use Rattle.std.specs.Option.{option_map}
use Rattle.pos_profile.specs.declared.entry.Role.TheVariants as role

-- what one more entry plans
pub planned_more : (entries : List Entry) (place : ℕ) (entry : Entry) → place < length entries
    → entry ≡ get_or entries place entry
    → planned_of (take (place + 1) entries) ≡ planned_of (take place entries) ++ planned_of (entry ∷ [])
planned_more entries place entry within at =
    rw (take_more entries place entry within, ← at) (filter_map-append planned_for (take place entries) (entry ∷ []))

-- the device at the place of a slot
pub device_at : {P : Type 0} (peripherals : Ghosts P) (slots : List (Slot P)) (place : ℕ) (slot : Slot P)
    → place < length slots → slot ≡ get_or slots place slot
    → slice_get (devices_of peripherals slots) place ≡ Some (device_of peripherals slot)
device_at peripherals slots place slot within at = grind (arith, gets, slice_get-map)

pub devices_count : {P : Type 0} (peripherals : Ghosts P) (slots : List (Slot P))
    → length (devices_of peripherals slots) ≡ length slots
devices_count peripherals slots = length-map slots (λ s. device_of peripherals s)

pub names_count : (list : List Device) → length (names_of list) ≡ length list
names_count list = length-map list (λ (d : Device). d.name)

-- another peripheral, or none, is put into a slot
pub devices_set : {P : Type 0} (peripherals : Ghosts P) (slots : List (Slot P)) (place : ℕ) (slot : Slot P) (x : Option
    P) → slot ≡ get_or slots place slot → devices_of peripherals (set slots place (record slot { peripheral = x }))
    ≡ with_peripheral (devices_of peripherals slots) place (option_map peripherals.state x)
devices_set peripherals [] place slot x at = refl
devices_set peripherals (first ∷ slots) zero slot x at = rw at
devices_set peripherals (first ∷ slots) (suc place) slot x at = rw (devices_set peripherals slots place slot x at)

pub standing_within : (list : List Device) (place : ℕ) → is_some (standing_at list place) ≡ true → place < length list
standing_within list place stands = grind (arith, slice_get_past)

-- what is put at the place of a name is put into a slot of that name
pub put_named : {P : Type 0} (peripherals : Ghosts P) {slots : List (Slot P)} (new : List (Slot P)) {name : List ℕ}
    {place : ℕ} (peripheral : P) → place_of (names_of (devices_of peripherals slots)) name ≡ Some place
    → (put : IsPut slots place peripheral new) → put.slot.name ≡ name
put_named peripherals {slots} new {name} {place} peripheral found put =
    let named = slice_get-map (λ (d : Device). d.name) (devices_of peripherals slots) place
    ∙ ap (option_map (λ (d : Device). d.name))
    (slice_get-map (λ s. device_of peripherals s) slots place ∙ ap (option_map (λ s. device_of peripherals s)) put.at)
    in
    same_Some put.slot.name name (sym named ∙ name_there (names_of (devices_of peripherals slots)) place found)

-- the names stay
names_with : (list : List Device) (place : ℕ) (x : Option PeripheralState)
    → names_of (with_peripheral list place x) ≡ names_of list
names_with [] place x = refl
names_with (device ∷ list) zero x = refl
names_with (device ∷ list) (suc place) x = rw (names_with list place x)

-- what holds of each device holds where the changed one has it
all_with : (Q : Device → Type 0) (list : List Device) (place : ℕ) {x : Option PeripheralState} → AllByRecursion Q list
    → ((device : Device) → slice_get list place ≡ Some device → Q device → Q (record device { peripheral = x }))
    → AllByRecursion Q (with_peripheral list place x)
all_with Q [] place all here = tt
all_with Q (device ∷ list) zero all here = (here device refl all.0, all.1)
all_with Q (device ∷ list) (suc place) all here = (all.0, all_with Q list place all.1 here)

-- a registry stays sound, where the peripheral of a place is changed for a right one
pub sound_with : {P : Type 0} {peripherals : Ghosts P} {old new : Registry P} (place : ℕ) (x : Option PeripheralState)
    → IsRegistrySound peripherals old → new.places ≡ old.places
    → devices peripherals new ≡ with_peripheral (devices peripherals old) place x → ((device : Device)
    → slice_get (devices peripherals old) place ≡ Some device → IsServed (record device { peripheral = x }))
    → IsRegistrySound peripherals new
sound_with {peripherals} {old} place x sound places is here = record {
  index = λ name. rw (places, is, names_with (devices peripherals old) place x) (sound.index name);
  kinds = rw is (all_with HasKindInRange (devices peripherals old) place sound.kinds (λ device at kind. kind));
  served = rw is (all_with IsServed (devices peripherals old) place sound.served (λ device at was. here device at));
}

-- what may serve a place is of the kind of its device
pub same_kind : {list : List Device} {place : ℕ} {state : PeripheralState} {device : Device} → MayServe list place state
    → slice_get list place ≡ Some device → state.kind ≡ device.kind
same_kind may at = grind arith

-- what serves a device is of its kind
kind_here : (device : Device) {state : PeripheralState} → IsServed device → device.peripheral ≡ Some state
    → state.kind ≡ device.kind
kind_here device served is = grind arith

pub served_kind : (list : List Device) (place : ℕ) {device : Device} {state : PeripheralState}
    → AllByRecursion IsServed list → slice_get list place ≡ Some device → standing_at list place ≡ Some state
    → state.kind ≡ device.kind
served_kind [] place served at stands = cc
served_kind (first ∷ list) zero served at stands = grind (arith, kind_here)
served_kind (first ∷ list) (suc place) served at stands = served_kind list place served.1 at stands

-- what is planned is sound, vacant
served_vacant : (plan : List Planned) → AllByRecursion IsServed (map vacant plan)
served_vacant [] = tt
served_vacant (planned ∷ plan) = (tt, served_vacant plan)

-- what is planned for an entry whose kind is in range
kinds_more : (name : List ℕ) (kind : Option Kind) (plan : List Planned) → IfSome kind IsInRange
    → AllByRecursion HasKindInRange (map vacant plan) → AllByRecursion HasKindInRange
    (map vacant (cons_option (option_map (λ kind. record { name = name; kind = kind }) kind) plan))
kinds_more name kind plan here all = grind arith

-- what is planned for sound entries
kinds_planned : (entries : List Entry) → AllByRecursion (IsSoundEntry role.Device) entries
    → AllByRecursion HasKindInRange (vacant_devices entries)
kinds_planned [] sound = tt
kinds_planned (entry ∷ entries) sound =
    kinds_more entry.name (kind_of entry) (planned_of entries) sound.0.kind (kinds_planned entries sound.1)

pub sound_planned : {P : Type 0} {peripherals : Ghosts P} {registry : Registry P} (entries : List Entry)
    {plan : List Planned} → All (IsSoundEntry role.Device) entries → plan ≡ planned_of entries
    → devices peripherals registry ≡ map vacant plan → IsIndexOf registry.places (map (λ (p : Planned). p.name) plan)
    → IsRegistrySound peripherals registry
sound_planned entries {plan} sound planned is index = record {
  index = λ name. rw (is, map-map) (index name);
  kinds = rw (is, planned) (kinds_planned entries (recursion_from_All (IsSoundEntry role.Device) entries sound));
  served = rw is (served_vacant plan);
}

-- one more device is out of service
pub parked_more : {P : Type 0} (peripherals : Ghosts P) (slots : List (Slot P)) (olds : List Device) {place : ℕ}
    {old : Slot P} (new : Slot P) → place < length olds → length slots ≡ length olds
    → devices_of peripherals slots ≡ map parked (take place olds) ++ drop place olds → old ≡ get_or slots place old
    → device_of peripherals new ≡ parked (device_of peripherals old)
    → devices_of peripherals (set slots place new) ≡ map parked (take (place + 1) olds) ++ drop (place + 1) olds
parked_more peripherals slots olds {place} {old} new within same front at parks =
    rw (map-set (λ s. device_of peripherals s) slots place new, parks) (map_over_more parked olds
    (devices_of peripherals slots) place (device_of peripherals old) within front (grind (arith, get_or-map)))

-- once the place is behind the last, all are out of service
pub parked_whole : {list : List Device} (olds : List Device) {place : ℕ} → length olds ≤ place
    → list ≡ map parked (take place olds) ++ drop place olds → list ≡ map parked olds
parked_whole olds past front = grind (arith, common_steps)

-- what was taken out of service is out of service
out_of_service : (o : Option PeripheralState) → IfSome (option_map parked_state o) (λ state. state.is_parked ≡ true)
out_of_service None = tt
out_of_service (Some state) = refl

pub all_parked : (list : List Device) → AreParked (map parked list)
all_parked list = All-map (λ (d : Device). IfSome d.peripheral (λ state. state.is_parked ≡ true)) parked list
    (λ k d lt. out_of_service (get_or list k d).peripheral)
