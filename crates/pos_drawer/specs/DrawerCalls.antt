-- The calls of a cash drawer (chapter Cash Drawer).
use Rattle.std.specs.Prelude.{ℕ, List, [], Option, Some, None, Result, MatchOption, slice_get}
use Rattle.pos_service.specs.declared.call.Call.{Call}
use Rattle.pos_service.specs.declared.call.Call.TheVariants as call
use Rattle.pos_service.specs.declared.action.ControlUpdate.TheVariants as change
use Rattle.pos_service.specs.declared.action.Action.{Action}
use Rattle.pos_service.specs.declared.action.Action.TheVariants as action
use Rattle.pos_service.specs.declared.order.Order.TheVariants as order
use Rattle.pos_service.specs.declared.answer.Answer.{Answer}
use Rattle.pos_service.specs.declared.category.Category.TheVariants as category
use Rattle.pos_service.specs.declared.faults.NoMemory.{NoMemory}
use Rattle.pos_service.specs.Hardware.{Effect}
use Rattle.pos_common.specs.OwnCalls.{OwnCall, OwnOrders}
use Rattle.pos_service.specs.Controls.{Control}

-- what each call comes to
abbrev pub drawer_action : Call → Option Action
drawer_action call.OpenDrawer = Some (action.Gives order.OpenDrawer change.Nothing)
drawer_action asked = None

-- A call of the control with a number at its drawer, by the claims of all devices.
abbrev pub DrawerCall : ℕ → List (Option ℕ) → Call → Result Answer NoMemory → Effect
DrawerCall number claims asked outcome old before new after = MatchOption (slice_get old number) ⊥ (λ control.
    OwnCall category.CashDrawer [] (drawer_action asked) number claims asked outcome
    control old before new after)

-- how many orders the drawer was given before and after it
abbrev pub DrawerOrders : ℕ → List (Option ℕ) → Call → Result Answer NoMemory → List Control → ℕ → ℕ → Type 0
DrawerOrders number claims asked outcome controls old new = MatchOption (slice_get controls number) ⊥ (λ control.
    OwnOrders category.CashDrawer [] (drawer_action asked) number claims asked outcome
    control old new)
