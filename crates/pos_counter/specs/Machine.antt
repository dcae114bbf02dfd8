-- The state of the device machine: the controls of all applications, and the devices of the profile.
use Rattle.std.specs.Prelude.{ℕ, List, Option, Some, None, is_some, map, slice_get, slice_set, bytes_eq}
use Rattle.std.specs.Prelude.{if◌then◌else◌}
use Rattle.pos_service.specs.declared.category.Category.{Category}
use Rattle.pos_service.specs.declared.category.Category.TheVariants as category
use Rattle.pos_service.specs.declared.context.OpenDevice.{OpenDevice}
use Rattle.pos_service.specs.declared.context.OpenDevice.TheVariants as open_device
use Rattle.pos_service.specs.declared.context.OpenTarget.{OpenTarget}
use Rattle.pos_service.specs.declared.context.OpenTarget.TheVariants as finding
use Rattle.pos_service.specs.declared.kind.Kind.{Kind}
use Rattle.pos_service.specs.declared.signs.Signs.{Signs}
use Rattle.pos_service.specs.Categories.{serves}
use Rattle.pos_service.specs.Claims.{holder_at}
use Rattle.pos_service.specs.Controls.{Control, open_place}
use Rattle.pos_totals.specs.HardTotals.{Totals}
use Rattle.pos_service.specs.Hardware.{Hardware, signs_in}
use Rattle.pos_common.specs.KeptControls.{KeptControl, controls_of}
use Rattle.pos_profile.specs.Places.{place_of as place_named}
use Rattle.pos_counter.specs.Totals.{TotalsPart}

-- a device of the profile: of a kind, and without hardware if no peripheral is attached
pub record Device : Type 0 where
  pub name : List ℕ
  pub kind : Kind
  pub hardware : Option Hardware

-- Controls, devices, the claims, which name the control that holds each device by the devices' places, the name of the
-- Hard Totals, if the profile has them, and the totals, which know who holds their own (the area).
pub record Machine : Type 0 where
  pub controls : List Control
  pub devices : List Device
  pub claims : List (Option ℕ)
  pub totals_name : Option (List ℕ)
  pub totals : TotalsPart

-- the machine of the controls, claims and devices that a counter keeps, over any totals of a name
abbrev pub machine_with : List KeptControl → List (Option ℕ) → List Device → Option (List ℕ) → TotalsPart → Machine
machine_with helds claims devices totals part = record {
  controls = controls_of helds;
  devices = devices;
  claims = claims;
  totals_name = totals;
  totals = part;
}

-- the place of the first device with a name
abbrev pub place_of : List Device → List ℕ → Option ℕ
place_of devices name = place_named (map (λ device. device.name) devices) name

abbrev pub device_at : List Device → Option ℕ → Option Device
device_at devices None = None
device_at devices (Some place) = slice_get devices place

abbrev pub hardware_in : Option Device → Option Hardware
hardware_in None = None
hardware_in (Some device) = device.hardware

-- what a device is
abbrev pub kind_in : Option Device → Option Kind
kind_in None = None
kind_in (Some device) = Some device.kind

-- the hardware of the device of this name
abbrev pub hardware_named : Machine → List ℕ → Option Hardware
hardware_named machine name = hardware_in (device_at machine.devices (place_of machine.devices name))

-- what the device of this name is
abbrev pub kind_named : Machine → List ℕ → Option Kind
kind_named machine name = kind_in (device_at machine.devices (place_of machine.devices name))

-- what a control of a category finds at a place: a device of its kind, with or without a peripheral
abbrev pub found_at : Category → Option ℕ → Option Device → OpenTarget
found_at category None device = finding.NotThere
found_at category (Some place) None = finding.NotThere
found_at category (Some place) (Some device) =
    if serves category device.kind
    then (if is_some device.hardware then finding.There (open_device.At place) else finding.Vacant)
    else finding.NotThere

-- what a control of a category finds under a name, among devices
abbrev pub found_among : List Device → Category → List ℕ → OpenTarget
found_among devices category name =
    let place = place_of devices name in found_at category place (device_at devices place)

-- what a control of Hard Totals finds under a name: the totals, if it is theirs
abbrev pub totals_under : Option (List ℕ) → List ℕ → OpenTarget
totals_under None name = finding.NotThere
totals_under (Some totals) name =
    if bytes_eq name totals then finding.There open_device.Totals else finding.NotThere

-- what a control of a category finds under a name
abbrev pub found_under : Machine → Category → List ℕ → OpenTarget
found_under machine category.HardTotals name = totals_under machine.totals_name name
found_under machine c name = found_among machine.devices c name

abbrev pub with_control : Machine → ℕ → Control → Machine
with_control machine number control = record machine { controls = slice_set machine.controls number control }

-- the machine with these controls, and other hardware at a device
abbrev pub with_hardware : Machine → List Control → ℕ → Device → Hardware → Machine
with_hardware machine controls place device hardware = record machine {
  controls = controls;
  devices = slice_set machine.devices place (record device { hardware = Some hardware });
}

-- the machine in which a device has this hardware or none
abbrev pub with_standing : Machine → ℕ → Device → Option Hardware → Machine
with_standing machine place device hardware = record machine {
  devices = slice_set machine.devices place (record device { hardware = hardware });
}

-- the control that holds the device that is open, by the claims: the Hard Totals, by the claim of the area
abbrev pub holder_in : List (Option ℕ) → Option ℕ → Option OpenDevice → Option ℕ
holder_in claims area (Some open_device.Totals) = area
holder_in claims area device = holder_at claims (open_place device)

-- the control that holds a control's device
abbrev pub holder_of : Machine → Control → Option ℕ
holder_of machine control = holder_in machine.claims machine.totals.totals.area control.device

-- what a control's device is
abbrev pub kind_of : Machine → Control → Option Kind
kind_of machine control = kind_in (device_at machine.devices (open_place control.device))

-- what a control's device shows of itself
abbrev pub signs_at : Machine → Control → Signs
signs_at machine control = signs_in (hardware_in (device_at machine.devices (open_place control.device)))

-- the machine with other totals over the same disk
abbrev pub with_totals : Machine → Totals → Machine
with_totals machine totals = record machine { totals = record machine.totals { totals = totals } }
