-- A counter's requests and what its calls answer, as requests and responses of the machine.
use Rattle.std.specs.Prelude.{◌≡◌, ℕ, true, false, List, Result, Ok, Err, map, zip, ⊤}
use Rattle.pos_service.specs.declared.answer.Answer.{Answer}
use Rattle.pos_service.specs.declared.faults.NoMemory.{NoMemory}
use Rattle.pos_service.specs.declared.peripheral.Peripheral.{Ghosts}
use Rattle.pos_service.specs.declared.plant.Snapshot.{Snapshot}
use Rattle.pos_service.specs.declared.request.Request.{Request}
use Rattle.pos_service.specs.declared.request.Request.TheVariants as request
use Rattle.pos_service.specs.declared.request.Response.{Response}
use Rattle.pos_service.specs.declared.request.Response.TheVariants as response
use Rattle.pos_service.specs.declared.answer.WorkResult.{WorkResult}
use Rattle.pos_service.specs.declared.faults.AttachFault.{AttachFault}
use Rattle.pos_service.specs.declared.faults.DetachFault.{DetachFault}
use Rattle.pos_service.specs.Peripherals.{PeripheralState}
use Rattle.pos_service.specs.Requests.{request_by, response_by}
use Rattle.pos_service.specs.Hardware.{Hardware, hardware_of}
use Rattle.pos_counter.specs.Steps as machine
use Rattle.pos_counter.specs.declared.faults.ControlFault.{ControlFault}
use Rattle.pos_counter.specs.declared.faults.ControlFault.TheVariants as control_fault
use Rattle.pos_counter.specs.declared.faults.InputFault.{InputFault}
use Rattle.pos_counter.specs.declared.faults.InputFault.TheVariants as input_fault
use Rattle.pos_counter.specs.declared.faults.SnapshotFault.{SnapshotFault}
use Rattle.pos_counter.specs.declared.faults.SnapshotFault.TheVariants as snapshot_fault
use Rattle.pos_counter.specs.declared.faults.WorkFault.{WorkFault}
use Rattle.pos_counter.specs.declared.faults.WorkFault.TheVariants as work_fault

-- what `control` answers
abbrev pub made : {P : Type 0} → Result ℕ ControlFault → Response P
made (Ok number) = response.Made number
made (Err control_fault.Full) = response.Full
made (Err control_fault.NoMemory) = response.OutOfMemory

-- what `call` answers
abbrev pub answered : {P : Type 0} → Result Answer NoMemory → Response P
answered (Ok answer) = response.Answered answer
answered (Err want) = response.OutOfMemory

-- what `input` answers
abbrev pub taken_in : {P : Type 0} → Result (Unit {0}) InputFault → Response P
taken_in (Ok u) = response.TakenIn
taken_in (Err input_fault.NoDevice) = response.NoDevice
taken_in (Err input_fault.WrongInput) = response.WrongInput
taken_in (Err input_fault.NoMemory) = response.OutOfMemory

-- what `work` answers
abbrev pub worked : {P : Type 0} → Result WorkResult WorkFault → Response P
worked (Ok result) = response.Worked result
worked (Err work_fault.NoDevice) = response.NoDevice
worked (Err work_fault.NoMemory) = response.OutOfMemory

-- what `snapshot` answers
abbrev pub shown : {P : Type 0} → Result Snapshot SnapshotFault → Response P
shown (Ok snapshot) = response.Shown snapshot
shown (Err snapshot_fault.NoDevice) = response.NoDevice
shown (Err snapshot_fault.NoMemory) = response.OutOfMemory

-- what `attach` answers, by what the peripheral is that it returns
abbrev pub attached : {P : Type 0} → (P → PeripheralState) → Result (Unit {0}) (AttachFault × P) → machine.Response
attached state (Ok u) = response.Attached
attached state (Err refusal) = response.NotAttached refusal.0 (hardware_of (state refusal.1))

-- what `detach` answers, by what the peripheral is that it returns
abbrev pub detached : {P : Type 0} → (P → PeripheralState) → Result P DetachFault → machine.Response
detached state (Ok peripheral) = response.Detached (hardware_of (state peripheral))
detached state (Err fault) = response.NotDetached fault

-- the hardware that a device has, or would have, if a peripheral serves it
abbrev pub stands_as : {P : Type 0} → Ghosts P → P → Hardware
stands_as peripherals peripheral = hardware_of (peripherals.state peripheral)

-- a request to the machine
abbrev pub request_of : {P : Type 0} → Ghosts P → Request (Unit {0}) ℕ P → machine.Request
request_of peripherals asked = request_by (stands_as peripherals) asked

-- a response of the machine
abbrev pub response_of : {P : Type 0} → Ghosts P → Response P → machine.Response
response_of peripherals given = response_by (stands_as peripherals) given

-- each request with its response, as steps of the machine
abbrev pub steps_of : {P : Type 0} → Ghosts P → List (Request (Unit {0}) ℕ P) → List (Response P)
    → List (machine.Request × machine.Response)
steps_of peripherals requests responses =
    zip (map (request_of peripherals) requests) (map (response_of peripherals) responses)

-- a peripheral that is to be attached is in service
abbrev pub OffersInService : {P : Type 0} → Ghosts P → Request (Unit {0}) ℕ P → Type 0
OffersInService peripherals (request.Attach name peripheral) = (peripherals.state peripheral).is_parked ≡ false
OffersInService peripherals other = ⊤

-- a peripheral that was detached is out of service, and one that was refused is in service
abbrev pub HandsOut : {P : Type 0} → Ghosts P → Response P → Type 0
HandsOut peripherals (response.Detached peripheral) = (peripherals.state peripheral).is_parked ≡ true
HandsOut peripherals (response.NotAttached fault peripheral) = (peripherals.state peripheral).is_parked ≡ false
HandsOut peripherals other = ⊤
