-- The devices that a counter keeps, and those that it returns at its end.
use Rattle.std.specs.Prelude.{◌≡◌, ℕ, List, Option, map, option_map}
use Rattle.std.specs.List.{find}
use Rattle.pos_service.specs.Hardware.{hardware_of}
use Rattle.pos_counter.specs.Machine.{Device, Machine}
use Rattle.pos_counter.specs.declared.devices.Devices.{Devices}
use Rattle.pos_profile.specs.declared.entry.Entry.{Entry}
use Rattle.pos_profile.specs.declared.slot.Slot.{Slot}
use Rattle.pos_profile.specs.Categories.{is_totals}
use Rattle.pos_profile.specs.Registries.{AreParked, Device as Registered, IsRegistrySound, devices as registered}
use Rattle.pos_profile.specs.Registries.{vacant_devices}
use Rattle.pos_service.specs.declared.peripheral.Peripheral.{Ghosts}

-- a device, and its peripheral, if it has one
abbrev pub device_of : Registered → Device
device_of device = record {
  name = device.name;
  kind = device.kind;
  hardware = option_map hardware_of device.peripheral;
}

-- the devices of a registry, in order
abbrev pub devices_of : List Registered → List Device
devices_of list = map device_of list

-- the name of the Hard Totals of a profile, if it has them
abbrev pub totals_name : List Entry → Option (List ℕ)
totals_name entries = option_map (λ entry. entry.name) (find (λ entry. is_totals entry.category) entries)

-- the devices of a profile, each vacant
abbrev pub profile_devices : List Entry → List Device
profile_devices entries = devices_of (vacant_devices entries)

-- the devices that a counter keeps
abbrev pub devices_in : {P : Type 0} → Ghosts P → Devices P → List Device
devices_in peripherals devices = devices_of (registered peripherals devices.registry)

-- the slots of the devices, in order, each with its peripheral
abbrev pub slots_in : {P : Type 0} → Devices P → List (Slot P)
slots_in devices = devices.registry.slots.items

-- What is true of the devices of every counter: their registry is sound.
pub record AreDevicesSound {P : Type 0} (peripherals : Ghosts P) (devices : Devices P) : Type 0 where
  pub registry : IsRegistrySound peripherals devices.registry

-- The devices of a machine are returned, each once, in order, with their peripherals, which are out of service.
pub record HandsOver (machine : Machine) (handed : List Registered) : Type 0 where
  pub devices : devices_of handed ≡ machine.devices
  pub parked : AreParked handed
