-- The calls of a scanner (chapter Scanner, and common chapter).
use Rattle.std.specs.Prelude.{ℕ, List, [], Option, Some, None, Result, MatchOption, slice_get}
use Rattle.pos_service.specs.declared.call.Call.{Call}
use Rattle.pos_service.specs.declared.call.Call.TheVariants as call
use Rattle.pos_service.specs.declared.action.ControlUpdate.TheVariants as change
use Rattle.pos_service.specs.declared.action.Action.{Action}
use Rattle.pos_service.specs.declared.action.Action.TheVariants as action
use Rattle.pos_service.specs.declared.answer.Answer.{Answer}
use Rattle.pos_service.specs.declared.category.Category.TheVariants as category
use Rattle.pos_service.specs.declared.faults.NoMemory.{NoMemory}
use Rattle.pos_service.specs.Hardware.{Effect}
use Rattle.pos_common.specs.OwnCalls.{OwnCall, OwnOrders}
use Rattle.pos_service.specs.Controls.{Control}

-- what each call comes to
abbrev pub scanner_action : Call → Option Action
scanner_action call.ClearInput = Some (action.Changes change.Input)
scanner_action call.ClearInputProperties = Some (action.Changes change.InputProperties)
scanner_action asked = None

-- A call of the control with a number at its scanner, by the claims of all devices.
abbrev pub ScannerCall : ℕ → List (Option ℕ) → Call → Result Answer NoMemory → Effect
ScannerCall number claims asked outcome old before new after = MatchOption (slice_get old number) ⊥ (λ control.
    OwnCall category.Scanner [] (scanner_action asked) number claims asked outcome
    control old before new after)

-- how many orders the scanner was given before and after it
abbrev pub ScannerOrders : ℕ → List (Option ℕ) → Call → Result Answer NoMemory → List Control → ℕ → ℕ → Type 0
ScannerOrders number claims asked outcome controls old new = MatchOption (slice_get controls number) ⊥ (λ control.
    OwnOrders category.Scanner [] (scanner_action asked) number claims asked outcome
    control old new)
