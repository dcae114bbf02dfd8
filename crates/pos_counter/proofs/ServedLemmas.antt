-- The peripheral of a device that is found by its order or by its name.
use Rattle.pos_counter.proofs.Common.{Bool, List, None, Some, [], ap, arith, bytes_eq, false, names_of}
use Rattle.pos_counter.proofs.Common.{option_map, refl, registered_from, same_Some, slice_get, subst, suc, sym, true}
use Rattle.pos_counter.proofs.Common.{zero, ℕ, ◌+◌, ◌∷◌, ◌≡◌}
use Rattle.pos_counter.proofs.HostsLemmas.{tail_first, tail_none}
use Rattle.std.proofs.Common.{option_and_then}
use Rattle.pos_drive.specs.declared.courses.Course.{Course}
use Rattle.pos_profile.specs.Registries.{devices_of as registered_of, peripheral_at}
use Rattle.pos_profile.specs.declared.slot.Slot.{Slot}
use Rattle.pos_service.specs.declared.peripheral.Peripheral.{Ghosts}
use Rattle.pos_counter.specs.Hosts.{IsFirstPending, NonePending, host_of, hosts_of, pending_peripheral, served_named}

module _ {P : Type 0} (course_of : P → Course) where
  -- no device has an order
  pub none_pending : (slots : List (Slot P)) → NonePending (hosts_of course_of slots)
      → pending_peripheral course_of slots ≡ None
  none_pending [] none = refl
  none_pending (slot ∷ slots) none =
      rw (none zero) (none_pending slots (tail_none (host_of course_of slot) (hosts_of course_of slots) none))

  -- the first device with an order
  pub first_pending : (slots : List (Slot P)) (place : ℕ) {slot : Slot P} {peripheral : P}
      → IsFirstPending (hosts_of course_of slots) place → slice_get slots place ≡ Some slot
      → slot.peripheral ≡ Some peripheral → pending_peripheral course_of slots ≡ Some (slot.name, peripheral)
  first_pending [] place first at is = grind (arith, at)
  first_pending (s ∷ slots) zero {slot} {peripheral} first at is =
      let same = same_Some s slot at in
      rw first.pends (subst (λ x. option_map {U = List ℕ × P} (λ found. (x.name, found)) x.peripheral ≡ Some
      (slot.name, peripheral)) (sym same) (ap (λ o. option_map {U = List ℕ × P} (λ found. (slot.name, found)) o) is))
  first_pending (s ∷ slots) (suc place) first at is =
      rw (first.none_before zero (omega arith)) (first_pending slots place (tail_first first) at is)

-- what is in the slot at a place
pub vacant_there : {P : Type 0} (slots : List (Slot P)) (place : ℕ) → slice_get slots place ≡ None
    → peripheral_at slots place ≡ None
vacant_there slots place at = ap (λ o. option_and_then (λ slot. slot.peripheral) o) at

pub filled_there : {P : Type 0} (slots : List (Slot P)) (place : ℕ) {slot : Slot P} → slice_get slots place ≡ Some slot
    → peripheral_at slots place ≡ slot.peripheral
filled_there slots place {slot} at = ap (λ o. option_and_then (λ slot. slot.peripheral) o) at

module _ {P : Type 0} (peripherals : Ghosts P) where
  served_or : (b : Bool) {slot : Slot P} (slots : List (Slot P)) (at place : ℕ) (name : List ℕ)
      → bytes_eq name slot.name ≡ b
      → (registered_from (at + 1) name (names_of (registered_of peripherals slots)) ≡ Some place
      → (k : ℕ) × (place ≡ at + 1 + k) × (served_named name slots ≡ peripheral_at slots k))
      → registered_from at name (names_of (registered_of peripherals (slot ∷ slots))) ≡ Some place
      → (k : ℕ) × (place ≡ at + k) × (served_named name (slot ∷ slots) ≡ peripheral_at (slot ∷ slots) k)
  served_or true slots at place name is rest found =
      let same = same_Some at place (rw is at found) in (0, omega (arith, same), rw is refl)
  served_or false slots at place name is rest found =
      let (k, same, serves) = rest (rw is at found) in (suc k, omega (arith, same), rw is serves)

  served_from : (slots : List (Slot P)) (at : ℕ) {place : ℕ} (name : List ℕ)
      → registered_from at name (names_of (registered_of peripherals slots)) ≡ Some place
      → (k : ℕ) × (place ≡ at + k) × (served_named name slots ≡ peripheral_at slots k)
  served_from [] at name found = grind (arith, found)
  served_from (slot ∷ slots) at {place} name found = served_or (bytes_eq name slot.name) slots at place name refl
      (λ later. served_from slots (at + 1) name later) found

  -- what serves the device that the registry finds
  pub served_at : (slots : List (Slot P)) (place : ℕ) (name : List ℕ)
      → registered_from 0 name (names_of (registered_of peripherals slots)) ≡ Some place
      → served_named name slots ≡ peripheral_at slots place
  served_at slots place name found =
      let (k, same, serves) = served_from slots 0 name found in
      let is : k ≡ place = omega (arith, same) in subst (λ n. served_named name slots ≡ peripheral_at slots n) is serves

  unserved_or : (b : Bool) (slot : Slot P) (slots : List (Slot P)) (at : ℕ) (name : List ℕ)
      → bytes_eq name slot.name ≡ b → (registered_from (at + 1) name (names_of (registered_of peripherals slots)) ≡ None
      → served_named name slots ≡ None)
      → registered_from at name (names_of (registered_of peripherals (slot ∷ slots))) ≡ None
      → served_named name (slot ∷ slots) ≡ None
  unserved_or true slot slots at name is rest found = let no : Some at ≡ None = rw is at found in grind (arith, no)
  unserved_or false slot slots at name is rest found = rw is (rest (rw is at found))

  -- no device of the registry has the name
  pub unserved_from : (slots : List (Slot P)) (at : ℕ) (name : List ℕ)
      → registered_from at name (names_of (registered_of peripherals slots)) ≡ None → served_named name slots ≡ None
  unserved_from [] at name found = refl
  unserved_from (slot ∷ slots) at name found = unserved_or (bytes_eq name slot.name) slot slots at name refl
      (λ later. unserved_from slots (at + 1) name later) found
