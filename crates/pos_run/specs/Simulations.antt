-- What is simulated for the entries of a profile (docs/reference/console.md, "The program").
use Rattle.std.specs.Prelude.{◌≡◌, ◌≤◌, ◌⊎◌, ◌∷◌, [], ℕ, Bool, true, false, List, Option, Some, None, Result, Err}
use Rattle.std.specs.Prelude.{IfSome, map, option_map, slice_get, ⊤}
use Rattle.pos_service.specs.declared.kind.Kind.{Kind}
use Rattle.pos_service.specs.declared.kind.Kind.TheVariants as kind
use Rattle.pos_service.specs.declared.plant.Mechanism.{Mechanism}
use Rattle.pos_service.specs.declared.plant.Mechanism.TheVariants as mechanism
use Rattle.pos_service.specs.declared.peripheral.Peripheral.{Ghosts}
use Rattle.pos_service.specs.Displays.{blank_display}
use Rattle.pos_service.specs.Peripherals.{IsInRange, PeripheralState, switched_on}
use Rattle.pos_service.specs.Receipts.{empty_roll}
use Rattle.pos_sims.specs.declared.flaky.Flaky.{Flaky}
use Rattle.pos_sims.specs.Drawers.{state_of as state_of_drawer}
use Rattle.pos_sims.specs.Flakies.{flaky_of, state_of as state_of_flaky}
use Rattle.pos_sims.specs.ScreenDisplays.{display_state, state_of as state_of_display}
use Rattle.pos_sims.specs.ReceiptPrinters.{state_of as state_of_printer}
use Rattle.pos_sims.specs.Recorders.{recorder_of, state_of as state_of_recorder}
use Rattle.pos_sims.specs.RingDisplays.{state_of as state_of_ring}
use Rattle.pos_sims.specs.Scanners.{state_of as state_of_scanner}
use Rattle.pos_profile.specs.declared.entry.Entry.{Entry}
use Rattle.pos_profile.specs.declared.optional.OptionalKey.TheVariants.{Ring}
use Rattle.pos_profile.specs.Kinds.{kind_of}
use Rattle.pos_profile.specs.OptionalKeys.{has_option}
use Rattle.std.specs.List.{AllByRecursion, filter_map}
use Rattle.pos_disk.specs.State.{DiskState, LeavesOnly}
use Rattle.pos_disk.specs.declared.device.Disk.{Ghosts as DiskGhosts}
use Rattle.pos_profile.specs.Entries.{Contents}
use Rattle.pos_store.specs.Standing.{Standing, LeavesOneOf}
use Rattle.pos_counter.specs.Machine.{Device, Machine}
use Rattle.pos_counter.specs.KeptDevices.{slots_in, totals_name}
use Rattle.pos_profile.specs.Registries.{IsPut}
use Rattle.pos_profile.specs.declared.slot.Slot.{Slot}
use Rattle.pos_counter.specs.Counters.{IsCounterSound, IsLeftDuring, machine}
use Rattle.pos_counter.specs.Sparing.{RunSparing}
use Rattle.pos_counter.specs.Steps.{Run}
use Rattle.pos_counter.specs.declared.counter.Counter.{Counter}
use Rattle.pos_run.specs.declared.spares.Spares.{Spares}
use Rattle.pos_counter.specs.Totals.{TotalsPart}
use Rattle.pos_run.specs.declared.scripts.RunFault.{RunFault}
use Rattle.pos_run.specs.declared.scripts.RunFault.TheVariants as fault
use Rattle.pos_run.specs.LineRuns.{RunsWholeScript}
use Rattle.pos_run.specs.Runs.{RunsScript, begun_with, device_with, new_totals, off_over, script_steps}
use Rattle.pos_run.specs.Spares.{AreSparesSound, SpareStates, spares_in}
use Rattle.pos_run.specs.Streams.{AreUntouched, Streams}
use Rattle.pos_run.specs.Transcript.{Leads, Session, begun_session}
use Rattle.pos_run.specs.declared.simulation.Simulation.{Simulation}
use Rattle.pos_run.specs.declared.simulation.Simulation.TheVariants as simulation
use Rattle.pos_run.specs.declared.wrapped.Wrapped.{Wrapped}
use Rattle.pos_run.specs.declared.wrapped.Wrapped.TheVariants as wrapped

-- what contracts see of what is simulated without a wrapper
abbrev pub state_of : Simulation → PeripheralState
state_of (simulation.Drawer drawer) = state_of_drawer drawer
state_of (simulation.Scanner scanner) = state_of_scanner scanner
state_of (simulation.Display display) = state_of_display display
state_of (simulation.Ring ring) = state_of_ring ring
state_of (simulation.Printer printer) = state_of_printer printer

-- the states of what is simulated without a wrapper, and of what is on a line that fails
abbrev pub simulations : Ghosts Simulation
simulations = record { state = λ device. state_of device }

abbrev pub flaky_simulations : Ghosts (Flaky Simulation)
flaky_simulations = record { state = λ flaky. state_of_flaky simulations flaky }

-- what contracts see of what is simulated
abbrev pub wrapped_state : Wrapped → PeripheralState
wrapped_state (wrapped.Bare device) = state_of device
wrapped_state (wrapped.Flaky flaky) = state_of_flaky simulations flaky
wrapped_state (wrapped.Recorded recorder) = state_of_recorder simulations recorder
wrapped_state (wrapped.Both recorder) = state_of_recorder flaky_simulations recorder

-- a device in its wrappers: a line that fails by these two numbers, and a recorder round it
abbrev pub wrapped_by : Option (ℕ × ℕ) → Bool → Simulation → Wrapped
wrapped_by None false device = wrapped.Bare device
wrapped_by None true device = wrapped.Recorded (recorder_of device)
wrapped_by (Some (first, times)) false device = wrapped.Flaky (flaky_of device first times)
wrapped_by (Some (first, times)) true device = wrapped.Both (recorder_of (flaky_of device first times))

-- the rows of a display are a ring
abbrev pub is_ring : Simulation → Bool
is_ring (simulation.Ring ring) = true
is_ring _ = false

-- what is simulated of a kind, physically: a closed drawer, a scanner, a blank display, or a printer with this much
-- paper and no receipt
abbrev pub new_mechanism : Kind → ℕ → Mechanism
new_mechanism kind.Drawer lines = mechanism.Drawer false
new_mechanism kind.Scanner lines = mechanism.Scanner
new_mechanism (kind.Display rows columns) lines = mechanism.Display (blank_display rows columns)
new_mechanism (kind.Printer chars near) lines = mechanism.Printer (empty_roll chars lines)

-- what is simulated of a kind: it is on and in service, its line has never failed, and it was given no order
abbrev pub new_device : Kind → ℕ → PeripheralState
new_device is lines = record {
  kind = is;
  plant = switched_on (new_mechanism is lines);
  is_parked = false;
  failures = 0;
  orders = 0;
}

-- what is simulated for an entry; Hard Totals have no peripheral
abbrev pub simulated_for : Entry → Option PeripheralState
simulated_for entry = option_map (λ is. new_device is entry.lines) (kind_of entry)

-- a blank display in service, whose rows are a ring or not
pub record IsDisplay (rows columns : ℕ) (turns : Bool) (device : Simulation) : Type 0 where
  pub state : state_of device ≡ display_state (blank_display rows columns) false
  pub ring : is_ring device ≡ turns

-- what is simulated for an entry before it is wrapped: its rows are a ring if the entry says so
pub record IsDeviceFor (entry : Entry) (device : Option Simulation) : Type 0 where
  pub state : option_map state_of device ≡ simulated_for entry
  pub ring : IfSome device (λ device. is_ring device ≡ entry.ring)

-- what is simulated for an entry: its device, in the wrappers that it asks for
pub record IsSimulatedFor (entry : Entry) (made : Option Wrapped) : Type 0 where
  pub device : Option Simulation
  pub simulates : IsDeviceFor entry device
  pub wrapped : made ≡ option_map (wrapped_by entry.flaky entry.recorded) device

-- what a simulated peripheral is mounted in, by the entry that it is simulated for
abbrev pub Mounts : Type 0 → Type 1
Mounts P = Entry → Wrapped → P → Type 0

-- it is left as it is
abbrev pub as_it_is : Mounts Wrapped
as_it_is entry made peripheral = peripheral ≡ made

-- What serves for an entry: what is simulated for it, in the wrappers that it asks for, mounted.
pub record IsMountedFor {P : Type 0} (mounts : Mounts P) (entry : Entry) (peripheral : P) : Type 0 where
  pub made : Wrapped
  pub simulated : IsSimulatedFor entry (Some made)
  pub mounted : mounts entry made peripheral

-- What serves the device of a name: it is mounted for an entry of that name.
pub record IsMountedAs {P : Type 0} (mounts : Mounts P) (entries : List Entry) (name : List ℕ) (peripheral : P)
    : Type 0 where
  pub place : ℕ
  pub entry : Entry
  pub entry_is : slice_get entries place ≡ Some entry
  pub named : entry.name ≡ name
  pub mounted : IsMountedFor mounts entry peripheral

-- what serves the device of a slot, if anything does, is mounted for an entry of its name
abbrev pub HasMounted : {P : Type 0} → Mounts P → List Entry → Slot P → Type 0
HasMounted mounts entries slot = IfSome slot.peripheral (IsMountedAs mounts entries slot.name)

-- the spares that are there are mounted each for its entry, in order
abbrev pub AreSparesMounted : {P : Type 0} → Mounts P → List Entry → List (Option P) → Type 0
AreSparesMounted mounts [] [] = ⊤
AreSparesMounted mounts (entry ∷ entries) (spare ∷ spares) =
    IfSome spare (IsMountedFor mounts entry) × AreSparesMounted mounts entries spares
AreSparesMounted mounts entries spares = ⊥

-- a peripheral that is offered to the device of a name is in a slot of that name, or nothing changed
abbrev pub Offers : {P : Type 0} → List (Slot P) → List ℕ → P → List (Slot P) → Type 0
Offers old name peripheral new =
    ((place : ℕ) × (put : IsPut old place peripheral new) × (put.slot.name ≡ name)) ⊎ (new ≡ old)

-- what is simulated for entries, in order
abbrev pub simulated_all : List Entry → SpareStates
simulated_all entries = map simulated_for entries

-- a truth value is true only if it may be
abbrev pub HoldsOnlyIf : Bool → Bool → Type 0
HoldsOnlyIf true holds = ⊤
HoldsOnlyIf false holds = holds ≡ false

-- the numbers of an entry are in their ranges, and only one whose category may have a ring has one
pub record IsSimulable (entry : Entry) : Type 0 where
  pub kind : IfSome (kind_of entry) IsInRange
  pub lines : entry.lines ≤ 100000
  pub ring : HoldsOnlyIf (has_option entry.category Ring) entry.ring

-- the device of an entry that may have a peripheral, with this one or none
abbrev pub device_for : Option PeripheralState → Entry → Option Device
device_for state entry = option_map (λ kind. device_with entry.name kind state) (kind_of entry)

-- the devices of entries in order, each served by what is simulated for it
abbrev pub simulated_devices : List Entry → List Device
simulated_devices entries = filter_map (λ entry. device_for (simulated_for entry) entry) entries

-- the machine with these devices and the Hard Totals of the entries, no control and no claim
abbrev pub simulated_machine : List Entry → TotalsPart → Machine
simulated_machine entries part = begun_with (simulated_devices entries) (totals_name entries) part

-- a counter of a profile's devices, each served by what is simulated for it, with totals that are off over this disk,
-- and spares that are what is simulated for the profile's
pub record IsSimulatedCounter {D P : Type 0} (peripherals : Ghosts P) (contents : Contents) (disk : D)
    (counter : Counter D P) (spares : Spares P) : Type 0 where
  pub served : (part : TotalsPart)
      → machine peripherals counter part ≡ simulated_machine contents.devices part
  pub totals : counter.totals ≡ off_over disk
  pub left : spares_in peripherals spares ≡ simulated_all contents.spares
  pub sound : IsCounterSound peripherals counter
  pub in_service : AreSparesSound peripherals spares

-- The devices of a counter and the spares are those that are simulated for a profile's, each in the wrappers that its
-- entry asks for, and mounted.
pub record AreMounted {D P : Type 0} (mounts : Mounts P) (contents : Contents) (counter : Counter D P)
    (spares : Spares P) : Type 0 where
  pub devices : AllByRecursion (HasMounted mounts contents.devices) (slots_in counter.devices)
  pub left : AreSparesMounted mounts contents.spares spares.peripherals.items

-- What a run over a profile leaves: it is one from the profile's devices, each served by what is simulated for it, and
-- totals that are off, with what is simulated for the spares.
pub record RunsOverProfile (Runs : Leads Machine) (contents : Contents) (part : TotalsPart) (streams : Streams)
    (result : Result (Unit {0}) RunFault) : Type 0 where
  pub end : Machine
  pub left : Session
  pub run : RunsScript Runs (simulated_machine contents.devices part)
      (begun_session (simulated_all contents.spares)) streams result left end

-- there was no memory, and nothing was read or written
abbrev pub FindsNoMemory : Streams → Result (Unit {0}) RunFault → Type 0
FindsNoMemory streams result = (result ≡ Err fault.NoMemory) × AreUntouched streams

-- the machine of a profile's devices, each served by what is simulated for it, with totals that are off, over a disk
-- that may leave these
abbrev pub begun_over : Contents → List Standing → DiskState → Machine
begun_over contents left disk = simulated_machine contents.devices (new_totals left disk.failures)

-- A run over a profile and an honest disk that may leave these before it. A crash at any moment of it leaves what the
-- machine may leave before, in or after one of its steps, and a crash after it what the machine may leave at the end.
pub record RunsThroughProfile (contents : Contents) (left : List Standing) (disk after : DiskState) (streams : Streams)
    (result : Result (Unit {0}) RunFault) : Type 0 where
  pub text : RunsOverProfile Run contents (new_totals left disk.failures) streams result
  pub end : Machine
  pub run : Run (begun_over contents left disk) (script_steps text.run) end
  pub any_moment : LeavesOnly disk after (IsLeftDuring (begun_over contents left disk) (script_steps text.run) end run)
  pub leaves : LeavesOneOf end.totals.left after

-- What a run over a profile and a disk leaves. For all that an honest disk may leave before it, it is a run of the
-- machine, and the disk is honest after it. Whatever the disk is, each request that spares it is a step.
abbrev pub ProfileRuns : {D : Type 0} → DiskGhosts D → Contents → D → Streams → Result (Unit {0}) RunFault → D → Type 0
ProfileRuns bound contents disk streams result after =
    ((left : List Standing) → bound.honest disk → LeavesOneOf left (bound.state disk)
    → RunsThroughProfile contents left (bound.state disk) (bound.state after) streams result × bound.honest after)
    × ((left : List Standing) (failures : ℕ)
    → RunsOverProfile RunSparing contents (new_totals left failures) streams result)

-- likewise, or there was no memory, and the disk is as it was
abbrev pub ProfileLeaves : {D : Type 0} → DiskGhosts D → Contents → D → Streams → Result (Unit {0}) RunFault → D
    → Type 0
ProfileLeaves bound contents disk streams result after =
    (FindsNoMemory streams result × (after ≡ disk)) ⊎ ProfileRuns bound contents disk streams result after

-- what contracts see of what is simulated
abbrev pub wrapped_devices : Ghosts Wrapped
wrapped_devices = record { state = λ device. wrapped_state device }

-- A run over a profile is one of a counter of the profile's devices with its spares. Each of them is what is simulated
-- for its entry, in the wrappers that the entry asks for. The disk that is left is that counter's.
pub record RunsSimulated {D : Type 0} (bound : DiskGhosts D) (contents : Contents) (disk : D) (streams : Streams)
    (result : Result (Unit {0}) RunFault) (after : D) : Type 0 where
  pub counter : Counter D Wrapped
  pub spares : Spares Wrapped
  pub simulated : IsSimulatedCounter wrapped_devices contents disk counter spares
  pub mounted : AreMounted as_it_is contents counter spares
  pub left : Session
  pub end : Counter D Wrapped
  pub run : RunsWholeScript bound wrapped_devices counter (begun_session (spares_in wrapped_devices spares)) streams
      result left end
  pub disk_left : after ≡ end.totals.disk

-- likewise, or there was no memory, and the disk is as it was
abbrev pub SimulatedLeaves : {D : Type 0} → DiskGhosts D → Contents → D → Streams → Result (Unit {0}) RunFault → D
    → Type 0
SimulatedLeaves bound contents disk streams result after =
    (FindsNoMemory streams result × (after ≡ disk)) ⊎ RunsSimulated bound contents disk streams result after
