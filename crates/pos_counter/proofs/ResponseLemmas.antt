-- What a counter's methods answer is the same response whatever its peripherals are.
use Rattle.pos_counter.proofs.Common.{Err, HandsOut, Ok, refl, response_of, ℕ, ◌≡◌}
use Rattle.std.specs.Prelude.{Result}
use Rattle.pos_counter.specs.Responses.{made, shown, taken_in, worked}
use Rattle.pos_counter.specs.declared.faults.ControlFault.{ControlFault}
use Rattle.pos_counter.specs.declared.faults.ControlFault.TheVariants as control_fault
use Rattle.pos_counter.specs.declared.faults.InputFault.{InputFault}
use Rattle.pos_counter.specs.declared.faults.InputFault.TheVariants as input_fault
use Rattle.pos_counter.specs.declared.faults.SnapshotFault.{SnapshotFault}
use Rattle.pos_counter.specs.declared.faults.SnapshotFault.TheVariants as snapshot_fault
use Rattle.pos_counter.specs.declared.faults.WorkFault.{WorkFault}
use Rattle.pos_counter.specs.declared.faults.WorkFault.TheVariants as work_fault
use Rattle.pos_service.specs.declared.faults.NoMemory.{NoMemory}
use Rattle.pos_service.specs.declared.peripheral.Peripheral.{Ghosts}
use Rattle.pos_service.specs.declared.plant.Snapshot.{Snapshot}
use Rattle.pos_service.specs.declared.request.Response.{Response}
use Rattle.pos_service.specs.declared.answer.WorkResult.{WorkResult}
use Rattle.pos_counter.specs.Steps as machine

-- a response has no peripheral in it, and is the machine's
pub record IsPlain {P : Type 0} (peripherals : Ghosts P) (given : Response P)
    (response : machine.Response) : Type 0 where
  pub same : response_of peripherals given ≡ response
  pub handed_out : HandsOut peripherals given

module _ {P : Type 0} (peripherals : Ghosts P) where
  pub plain_control : (answer : Result ℕ ControlFault) → IsPlain peripherals (made answer) (made answer)
  plain_control (Ok number) = record { same = refl; handed_out = tt }
  plain_control (Err control_fault.Full) = record { same = refl; handed_out = tt }
  plain_control (Err control_fault.NoMemory) = record { same = refl; handed_out = tt }

  pub plain_input : (answer : Result (Unit {0}) InputFault) → IsPlain peripherals (taken_in answer) (taken_in answer)
  plain_input (Ok u) = record { same = refl; handed_out = tt }
  plain_input (Err input_fault.NoDevice) = record { same = refl; handed_out = tt }
  plain_input (Err input_fault.WrongInput) = record { same = refl; handed_out = tt }
  plain_input (Err input_fault.NoMemory) = record { same = refl; handed_out = tt }

  pub plain_work : (answer : Result WorkResult WorkFault) → IsPlain peripherals (worked answer) (worked answer)
  plain_work (Ok result) = record { same = refl; handed_out = tt }
  plain_work (Err work_fault.NoDevice) = record { same = refl; handed_out = tt }
  plain_work (Err work_fault.NoMemory) = record { same = refl; handed_out = tt }

  pub plain_snapshot : (answer : Result Snapshot SnapshotFault) → IsPlain peripherals (shown answer) (shown answer)
  plain_snapshot (Ok snapshot) = record { same = refl; handed_out = tt }
  plain_snapshot (Err snapshot_fault.NoDevice) = record { same = refl; handed_out = tt }
  plain_snapshot (Err snapshot_fault.NoMemory) = record { same = refl; handed_out = tt }
