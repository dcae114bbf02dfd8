-- What contracts see of a registry: its devices in the profile's order, each with the peripheral that serves it.
use Rattle.std.specs.Prelude.{◌≡◌, ℕ, zero, suc, All, Bool, true, false, List, [], ◌∷◌, Option, Some, None, Result, Ok}
use Rattle.std.specs.Prelude.{Err, IfSome, map, option_and_then, slice_get, slice_set}
use Rattle.std.specs.List.{AllByRecursion, filter_map}
use Rattle.std.specs.Option.{option_map}
use Rattle.pos_service.specs.declared.kind.Kind.{Kind}
use Rattle.pos_service.specs.declared.peripheral.Peripheral.{Ghosts}
use Rattle.pos_service.specs.Peripherals.{IsInRange, PeripheralState}
use Rattle.pos_profile.specs.declared.entry.Entry.{Entry}
use Rattle.pos_profile.specs.declared.plans.Planned.{Planned}
use Rattle.pos_profile.specs.declared.registry.Registry.{Registry}
use Rattle.pos_service.specs.declared.faults.AttachFault.{AttachFault}
use Rattle.pos_service.specs.declared.faults.AttachFault.TheVariants as attach
use Rattle.pos_service.specs.declared.faults.DetachFault.{DetachFault}
use Rattle.pos_service.specs.declared.faults.DetachFault.TheVariants as detach
use Rattle.pos_profile.specs.declared.slot.Slot.{Slot}
use Rattle.pos_profile.specs.Kinds.{kind_of}
use Rattle.pos_profile.specs.Places.{IsIndexOf, place_of}

-- a device: its name, its kind, and the peripheral that serves it, or none where it is vacant
pub record Device : Type 0 where
  pub name : List ℕ
  pub kind : Kind
  pub peripheral : Option PeripheralState

-- the device of a slot
abbrev pub device_of : {P : Type 0} → Ghosts P → Slot P → Device
device_of peripherals slot =
    record { name = slot.name; kind = slot.kind; peripheral = option_map peripherals.state slot.peripheral }

-- the devices of slots, in order
abbrev pub devices_of : {P : Type 0} → Ghosts P → List (Slot P) → List Device
devices_of peripherals slots = map (λ slot. device_of peripherals slot) slots

-- the devices of a registry, in order
abbrev pub devices : {P : Type 0} → Ghosts P → Registry P → List Device
devices peripherals registry = devices_of peripherals registry.slots.items

-- the names of devices
abbrev pub names_of : List Device → List (List ℕ)
names_of devices = map (λ device. device.name) devices

-- what is planned for an entry that has a peripheral
abbrev pub planned_for : Entry → Option Planned
planned_for entry = option_map (λ kind. record { name = entry.name; kind = kind }) (kind_of entry)

-- what is planned for entries, in order
abbrev pub planned_of : List Entry → List Planned
planned_of entries = filter_map planned_for entries

-- a planned device, vacant
abbrev pub vacant : Planned → Device
vacant planned = record { name = planned.name; kind = planned.kind; peripheral = None }

-- the devices of a profile that have a peripheral, in order, each vacant
abbrev pub vacant_devices : List Entry → List Device
vacant_devices entries = map vacant (planned_of entries)

-- a peripheral out of service, and else as it was
abbrev pub parked_state : PeripheralState → PeripheralState
parked_state state = record state { is_parked = true }

-- a device whose peripheral is out of service
abbrev pub parked : Device → Device
parked device = record device { peripheral = option_map parked_state device.peripheral }

-- each peripheral that there is, is out of service
abbrev pub AreParked : List Device → Type 0
AreParked devices = All (λ device. IfSome device.peripheral (λ state. state.is_parked ≡ true)) devices

-- the kind of the device at a place
abbrev pub kind_at : List Device → ℕ → Option Kind
kind_at devices place = option_map (λ device. device.kind) (slice_get devices place)

-- what serves the device at a place
abbrev pub standing_at : List Device → ℕ → Option PeripheralState
standing_at devices place = option_and_then (λ device. device.peripheral) (slice_get devices place)

-- the peripheral in the slot at a place
abbrev pub peripheral_at : {P : Type 0} → List (Slot P) → ℕ → Option P
peripheral_at slots place = option_and_then (λ slot. slot.peripheral) (slice_get slots place)

-- the devices, with this to serve the one at a place
abbrev pub with_peripheral : List Device → ℕ → Option PeripheralState → List Device
with_peripheral [] place peripheral = []
with_peripheral (device ∷ devices) zero peripheral = record device { peripheral = peripheral } ∷ devices
with_peripheral (device ∷ devices) (suc place) peripheral = device ∷ with_peripheral devices place peripheral

-- what serves a device is in service and of its kind
abbrev pub IsServed : Device → Type 0
IsServed device = IfSome device.peripheral (λ state. (state.is_parked ≡ false) × (state.kind ≡ device.kind))

-- a device's kind is one that a peripheral may have
abbrev pub HasKindInRange : Device → Type 0
HasKindInRange device = IsInRange device.kind

-- What is true of every registry: each name is found at its first place, each kind is in range, each peripheral is in
-- service and of its device's kind.
pub record IsRegistrySound {P : Type 0} (peripherals : Ghosts P) (registry : Registry P)
    : Type 0 where
  pub index : IsIndexOf registry.places (names_of (devices peripherals registry))
  pub kinds : AllByRecursion HasKindInRange (devices peripherals registry)
  pub served : AllByRecursion IsServed (devices peripherals registry)

-- a place is vacant, and a peripheral of this state may serve it
pub record MayServe (devices : List Device) (place : ℕ) (state : PeripheralState) : Type 0 where
  pub device : Device
  pub at : slice_get devices place ≡ Some device
  pub vacant : device.peripheral ≡ None
  pub kind : state.kind ≡ device.kind

-- A peripheral was put into the slot at a place, and nothing else changed.
pub record IsPut {P : Type 0} (old : List (Slot P)) (place : ℕ) (peripheral : P) (new : List (Slot P)) : Type 0 where
  pub slot : Slot P
  pub at : slice_get old place ≡ Some slot
  pub is : new ≡ slice_set old place (record slot { peripheral = Some peripheral })

-- the slots after a peripheral was to be attached to the device of a name: that very peripheral is in one of this name;
-- or they are as they were
abbrev pub PutsInto : {U B P : Type 0} → List (Slot P) → List ℕ → P → Result U B → List (Slot P) → Type 0
PutsInto old name peripheral (Ok done) new =
    (place : ℕ) × (put : IsPut old place peripheral new) × (put.slot.name ≡ name)
PutsInto old name peripheral (Err refusal) new = new ≡ old

-- a device has this name, and it is the first that has it
pub record IsNamed (devices : List Device) (name : List ℕ) (device : Device) : Type 0 where
  pub place : ℕ
  pub found : place_of (names_of devices) name ≡ Some place
  pub at : slice_get devices place ≡ Some device

-- No device has the name.
abbrev pub IsUnnamed : List Device → List ℕ → Type 0
IsUnnamed devices name = place_of (names_of devices) name ≡ None

-- A peripheral serves the device of a name from now on.
pub record IsAttached (old : List Device) (name : List ℕ) (state : PeripheralState) (new : List Device) : Type 0 where
  pub place : ℕ
  pub found : place_of (names_of old) name ≡ Some place
  pub may : MayServe old place state
  pub served : new ≡ with_peripheral old place (Some state)

-- The device of a name has its peripheral already.
pub record IsInUse (old : List Device) (name : List ℕ) : Type 0 where
  pub device : Device
  pub named : IsNamed old name device
  pub state : PeripheralState
  pub served : device.peripheral ≡ Some state

-- The device of a name is vacant, and the peripheral is of another kind.
pub record IsOfAnotherKind (old : List Device) (name : List ℕ) (state : PeripheralState) : Type 0 where
  pub device : Device
  pub named : IsNamed old name device
  pub vacant : device.peripheral ≡ None
  pub kind : ¬ (state.kind ≡ device.kind)

-- Attaching a peripheral to the device of a name: it is served, or the refusal's reason holds, and nothing changed.
abbrev pub Attaches :
    {U B : Type 0} → List Device → List ℕ → PeripheralState → Result U (AttachFault × B) → List Device → Type 0
Attaches old name state (Ok done) new = IsAttached old name state new
Attaches old name state (Err (attach.Unknown, given)) new = IsUnnamed old name × (new ≡ old)
Attaches old name state (Err (attach.InUse, given)) new = IsInUse old name × (new ≡ old)
Attaches old name state (Err (attach.KindDiffers, given)) new = IsOfAnotherKind old name state × (new ≡ old)

-- The device of a name is vacant from now on, and its peripheral, out of service, is handed out.
pub record IsDetached (old : List Device) (name : List ℕ) (handed : PeripheralState) (new : List Device) : Type 0 where
  pub place : ℕ
  pub found : place_of (names_of old) name ≡ Some place
  pub was : PeripheralState
  pub stood : standing_at old place ≡ Some was
  pub parked : handed ≡ parked_state was
  pub vacated : new ≡ with_peripheral old place None

-- The device of a name is vacant.
pub record IsVacant (old : List Device) (name : List ℕ) : Type 0 where
  pub device : Device
  pub named : IsNamed old name device
  pub vacant : device.peripheral ≡ None

-- Detaching the peripheral of a name's device, which a control has open or none: it is handed out, or the refusal's
-- reason holds, and nothing changed.
abbrev pub Detaches :
    {B : Type 0} → (B → PeripheralState) → List Device → List ℕ → Bool → Result B DetachFault → List Device → Type 0
Detaches state old name is_open (Ok peripheral) new =
    IsDetached old name (state peripheral) new × (is_open ≡ false)
Detaches state old name is_open (Err detach.Unknown) new = IsUnnamed old name × (new ≡ old)
Detaches state old name is_open (Err detach.Vacant) new = IsVacant old name × (new ≡ old)
Detaches state old name is_open (Err detach.InUse) new = IsInUse old name × (is_open ≡ true) × (new ≡ old)
