-- What a response prints, which is the same whatever its peripherals are.
use Rattle.pos_run.proofs.Common.{Err, List, Ok, Response, Result, Session, refl, session_after, ℕ, ◌≡◌}
use Rattle.pos_counter.specs.Responses.{made, shown, taken_in, worked}
use Rattle.pos_counter.specs.declared.faults.ControlFault.{ControlFault}
use Rattle.pos_counter.specs.declared.faults.ControlFault.TheVariants as control_fault
use Rattle.pos_counter.specs.declared.faults.InputFault.{InputFault}
use Rattle.pos_counter.specs.declared.faults.InputFault.TheVariants as input_fault
use Rattle.pos_counter.specs.declared.faults.SnapshotFault.{SnapshotFault}
use Rattle.pos_counter.specs.declared.faults.SnapshotFault.TheVariants as snapshot_fault
use Rattle.pos_counter.specs.declared.faults.WorkFault.{WorkFault}
use Rattle.pos_counter.specs.declared.faults.WorkFault.TheVariants as work_fault
use Rattle.pos_counter.specs.Steps.{NewControl}
use Rattle.pos_script.specs.Text.{response_text}
use Rattle.pos_service.specs.declared.category.Category.{Category}
use Rattle.pos_service.specs.declared.plant.Snapshot.{Snapshot}
use Rattle.pos_service.specs.declared.request.Response.{Response as ResponseOf}
use Rattle.pos_service.specs.declared.answer.WorkResult.{WorkResult}

-- a response without a peripheral prints what the machine's prints
abbrev pub PrintsAs : ResponseOf (Unit {0}) → Response → Type 0
PrintsAs given response = response_text given ≡ response_text response

pub control_text : (answer : Result ℕ ControlFault) → PrintsAs (made answer) (made answer)
control_text (Ok number) = refl
control_text (Err control_fault.Full) = refl
control_text (Err control_fault.NoMemory) = refl

pub input_text : (answer : Result (Unit {0}) InputFault) → PrintsAs (taken_in answer) (taken_in answer)
input_text (Ok u) = refl
input_text (Err input_fault.NoDevice) = refl
input_text (Err input_fault.WrongInput) = refl
input_text (Err input_fault.NoMemory) = refl

pub work_text : (answer : Result WorkResult WorkFault) → PrintsAs (worked answer) (worked answer)
work_text (Ok result) = refl
work_text (Err work_fault.NoDevice) = refl
work_text (Err work_fault.NoMemory) = refl

pub snapshot_text : (answer : Result Snapshot SnapshotFault) → PrintsAs (shown answer) (shown answer)
snapshot_text (Ok snapshot) = refl
snapshot_text (Err snapshot_fault.NoDevice) = refl
snapshot_text (Err snapshot_fault.NoMemory) = refl

-- a control that wasn't made leaves the session as it was
pub unmade : (session : Session) (name : List ℕ) (category : Category) (why : ControlFault)
    → session_after session (NewControl name category) (made (Err why)) ≡ session
unmade session name category control_fault.Full = refl
unmade session name category control_fault.NoMemory = refl
