-- The devices of a machine, by the registry of a counter: what stands at their places, how they begin and end, and
-- exchanges.
use Rattle.pos_counter.proofs.Common.{All, All-nil, AllByRecursion, Attach, Attaches, Bool, Detach, Detaches, Device}
use Rattle.pos_counter.proofs.Common.{Does, Effect, Entry, Err, Hardware, HasItsKind, HasKindInRange, IfErr, IsDoneAt}
use Rattle.pos_counter.proofs.Common.{IsNamed, IsServed, KeptControl, List, None, Ok, Option, PeripheralState, []}
use Rattle.pos_counter.proofs.Common.{Registered, Result, Some, Step, TotalsPart, ap, attached, controls_of}
use Rattle.pos_counter.proofs.Common.{detached, device_at, device_of, devices_of, hardware_of, is_open_at}
use Rattle.pos_counter.proofs.Common.{kind_in, length, length-map, machine_with, map, names_of, option_and_then_some}
use Rattle.pos_counter.proofs.Common.{option_map, parked, parked_state, place_of, planned_of, profile_devices, refl}
use Rattle.pos_counter.proofs.Common.{registered_place, rules, set, slice_get, slice_get-map, standing_at, suc, sym}
use Rattle.pos_counter.proofs.Common.{vacant, vacant_devices, with_peripheral, zero, ℕ, ◌∙◌, ◌∷◌, ◌≡◌}
use Rattle.pos_service.specs.declared.faults.AttachFault.TheVariants as attach
use Rattle.pos_service.specs.declared.faults.AttachFault.{AttachFault}
use Rattle.pos_service.specs.declared.faults.DetachFault.TheVariants as detach
use Rattle.pos_service.specs.declared.faults.DetachFault.{DetachFault}

-- a device of the machine has the name that it has in the registry
names_stay : (list : List Registered) → map (λ (device : Device). device.name) (devices_of list) ≡ names_of list
names_stay [] = refl
names_stay (d ∷ list) = ap (λ names. d.name ∷ names) (names_stay list)

-- so a name has the same place
pub found_same : (name : List ℕ) (list : List Registered)
    → place_of (devices_of list) name ≡ registered_place (names_of list) name
found_same name list = ap (λ names. registered_place names name) (names_stay list)

pub found_first : (name : List ℕ) (list : List Registered) {place : ℕ}
    → registered_place (names_of list) name ≡ Some place → place_of (devices_of list) name ≡ Some place
found_first name list is = found_same name list ∙ is

-- and a name that isn't registered has none
pub kind_unnamed : (name : List ℕ) (list : List Registered) → registered_place (names_of list) name ≡ None
    → kind_in (device_at (devices_of list) (place_of (devices_of list) name)) ≡ None
kind_unnamed name list is = ap (λ o. kind_in (device_at (devices_of list) o)) (found_same name list ∙ is)

-- ---- what stands at a place

-- what is at a place of the registry is at that place of the machine
pub registered_there : (list : List Registered) (place : ℕ) {d : Registered} → slice_get list place ≡ Some d
    → slice_get (devices_of list) place ≡ Some (device_of d)
registered_there list place at = slice_get-map device_of list place ∙ ap (option_map device_of) at

-- another peripheral, or none, at a device is other hardware, or none
pub devices_with : (list : List Registered) (place : ℕ) (d : Registered) (x : Option PeripheralState)
    → slice_get list place ≡ Some d → devices_of (with_peripheral list place x)
    ≡ set (devices_of list) place (record (device_of d) { hardware = option_map hardware_of x })
devices_with [] place d x at = cc
devices_with (y ∷ list) zero d x at = search rules
devices_with (y ∷ list) (suc place) d x at = ap (λ ds. device_of y ∷ ds) (devices_with list place d x at)

served_kind : (d : Registered) {was : PeripheralState} → IsServed d → d.peripheral ≡ Some was → d.kind ≡ was.kind
served_kind d served is = search rules

-- what stands at a place serves a device there, and is of its kind
pub served_at : (list : List Registered) (place : ℕ) {was : PeripheralState} → AllByRecursion IsServed list
    → standing_at list place ≡ Some was
    → (d : Registered) × (slice_get list place ≡ Some d) × (d.peripheral ≡ Some was) × (d.kind ≡ was.kind)
served_at [] place served is = absurd cc
served_at (d ∷ list) zero served is = (d, refl, is, served_kind d served.0 is)
served_at (d ∷ list) (suc place) served is = served_at list place served.1 is

-- what is done with what serves a device
pub done_there : {hs gs : List KeptControl} (list : List Registered) {new : List Registered} (place : ℕ)
    (was now : PeripheralState) (Does : Effect) → AllByRecursion IsServed list → standing_at list place ≡ Some was
    → new ≡ with_peripheral list place (Some now)
    → Does (controls_of hs) (hardware_of was) (controls_of gs) (hardware_of now)
    → IsDoneAt (devices_of list) place Does hs gs (devices_of new)
done_there list place was now Does served stands is does =
    let there = served_at list place served stands in
    record {
      device = device_of there.0;
      before = hardware_of was;
      after = hardware_of now;
      is_device = registered_there list place there.1;
      is_attached = ap (option_map hardware_of) there.2;
      kind = there.3;
      does = does;
      changed = ap devices_of is ∙ devices_with list place there.0 (Some now) there.1;
    }

-- ---- the end of a counter

-- a device whose peripheral is out of service is to the machine as it was
still : (o : Option PeripheralState) → option_map hardware_of (option_map parked_state o) ≡ option_map hardware_of o
still None = refl
still (Some state) = refl

parked_device : (d : Registered) → device_of (parked d) ≡ device_of d
parked_device d = ap (λ (o : Option Hardware). let x : Device =
    record { name = d.name; kind = d.kind; hardware = o } in x) (still d.peripheral)

-- so are all devices
pub devices_stay : (list : List Registered) → devices_of (map parked list) ≡ devices_of list
devices_stay [] = refl
devices_stay (d ∷ list) = search (rules, parked_device, (devices_stay list))

-- ---- the devices of a profile

-- there is a device for each entry that has a peripheral
pub count_devices : (entries : List Entry) → length (profile_devices entries) ≡ length (planned_of entries)
count_devices entries = length-map (vacant_devices entries) device_of ∙ length-map (planned_of entries) vacant

-- a device of a sound registry is of a kind in range, and so is its peripheral
has_its_kind : (d : Registered) → HasKindInRange d → IsServed d → HasItsKind (device_of d)
has_its_kind d range served = search rules

pub kinds_hold : (list : List Registered) → AllByRecursion HasKindInRange list → AllByRecursion IsServed list
    → All HasItsKind (devices_of list)
kinds_hold [] kinds served = All-nil HasItsKind
kinds_hold (d ∷ list) kinds served = search (rules, has_its_kind, (kinds_hold list kinds.1 served.1))

-- ---- exchanges

-- the device of a name that the registry has
named_device : (list : List Registered) (name : List ℕ) (d : Registered) → IsNamed list name d
    → device_at (devices_of list) (place_of (devices_of list) name) ≡ Some (device_of d)
named_device list name d is = ap (device_at (devices_of list)) (found_first name list is.found)
    ∙ registered_there list is.place is.at

module _ (hs : List KeptControl) (list new : List Registered) (name : List ℕ) (cl : List (Option ℕ))
    (tn : Option (List ℕ)) (part : TotalsPart) where
  -- nothing has changed
  same_machine : new ≡ list → machine_with hs cl (devices_of new) tn part ≡ machine_with hs cl (devices_of list) tn part
  same_machine is = ap (λ xs. machine_with hs cl (devices_of xs) tn part) is

  -- what stands at a place of the registry
  registered_at : (place : ℕ) (was : PeripheralState) → standing_at list place ≡ Some was
      → (d : Registered) × (slice_get list place ≡ Some d) × (d.peripheral ≡ Some was)
  registered_at place was stood =
      option_and_then_some (λ d. d.peripheral) (slice_get list place) was stood (λ d at is. (d, at, is))

  pub attach_step : {B : Type 0} (state : B → PeripheralState) (peripheral : B)
      (result : Result (Unit {0}) (AttachFault × B)) → IfErr result (λ refusal. refusal.1 ≡ peripheral)
      → Attaches list name (state peripheral) result new
      → Step (machine_with hs cl (devices_of list) tn part) (Attach name (hardware_of (state peripheral)))
      (attached state result) (machine_with hs cl (devices_of new) tn part)
  attach_step state peripheral (Ok u) back h = record {
    place = h.place;
    device = device_of h.may.device;
    is_at = found_first name list h.found;
    is_device = registered_there list h.place h.may.at;
    is_vacant = ap (option_map hardware_of) h.may.vacant;
    kind = sym h.may.kind;
    machine = rw (h.served, devices_with list h.place h.may.device (Some (state peripheral)) h.may.at);
  }
  attach_step state peripheral (Err (attach.Unknown, given)) back h = search (rules, kind_unnamed, same_machine)
  attach_step state peripheral (Err (attach.InUse, given)) back h = (
    rw (named_device list name h.0.device h.0.named, h.0.served),
    ap (λ b. hardware_of (state b)) back,
    same_machine h.1,
  )
  attach_step state peripheral (Err (attach.KindDiffers, given)) back h =
      let there = named_device list name h.0.device h.0.named in (
        record { kind = h.0.device.kind; named = rw there; is_vacant = rw (there, h.0.vacant); differs = h.0.kind },
        ap (λ b. hardware_of (state b)) back,
        same_machine h.1,
      )

  pub detach_step : {B : Type 0} (state : B → PeripheralState) (is_open : Bool) (result : Result B DetachFault)
      → ((place : ℕ) → registered_place (names_of list) name ≡ Some place → is_open ≡ is_open_at place (controls_of hs))
      → Detaches state list name is_open result new → Step (machine_with hs cl (devices_of list) tn part) (Detach name)
      (detached state result) (machine_with hs cl (devices_of new) tn part)
  detach_step state is_open (Ok peripheral) told h =
      let d = registered_at h.0.place h.0.was h.0.stood in
      record {
        place = h.0.place;
        device = device_of d.0;
        is_at = found_first name list h.0.found;
        is_device = registered_there list h.0.place d.1;
        is_attached = ap (option_map hardware_of) d.2 ∙ ap (λ s. Some (hardware_of s)) (sym h.0.parked);
        is_closed = sym (told h.0.place h.0.found) ∙ h.1;
        machine = ap (λ xs. machine_with hs cl xs tn part)
            (ap devices_of h.0.vacated ∙ devices_with list h.0.place d.0 None d.1);
      }
  detach_step state is_open (Err detach.Unknown) told h = search (rules, kind_unnamed, same_machine)
  detach_step state is_open (Err detach.Vacant) told h =
      let there = named_device list name h.0.device h.0.named in
      ((rw there, rw (there, h.0.vacant)), same_machine h.1)
  detach_step state is_open (Err detach.InUse) told h =
      let named : IsNamed list name h.0.device = h.0.named in (
        record {
          place = named.place;
          is_at = found_first name list named.found;
          is_attached = rw (named_device list name h.0.device named, h.0.served);
          is_open = sym (told named.place named.found) ∙ h.1;
        },
        same_machine h.2,
      )
