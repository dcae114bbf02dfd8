-- How many orders the peripherals of a counter were given.
use Rattle.std.specs.Prelude.{Bool, Err, List, MatchOption, None, Ok, Option, Result, Some, [], false, if◌then◌else◌}
use Rattle.std.specs.Prelude.{is_some, map, option_map, slice_get, slice_set, suc, true, zero, ℕ, ◌∷◌, ◌≡◌, ◌⊎◌}
use Rattle.pos_profile.specs.Registries.{Device as Registered, devices as registered, standing_at, with_peripheral}
use Rattle.pos_service.specs.Controls.{Control, open_place}
use Rattle.pos_service.specs.Peripherals.{PeripheralState, counted}
use Rattle.pos_service.specs.Refusals.{first_refusal}
use Rattle.pos_service.specs.declared.action.Action.{Action}
use Rattle.pos_service.specs.declared.action.Action.TheVariants as action
use Rattle.pos_service.specs.declared.answer.Answer.{Answer}
use Rattle.pos_service.specs.declared.answer.WorkResult.{WorkResult}
use Rattle.pos_service.specs.declared.answer.WorkResult.TheVariants as worked
use Rattle.pos_service.specs.declared.call.Call.{Call}
use Rattle.pos_service.specs.declared.faults.NoMemory.{NoMemory}
use Rattle.pos_service.specs.declared.kind.Kind.{Kind}
use Rattle.pos_service.specs.declared.peripheral.Peripheral.{Ghosts}
use Rattle.pos_common.specs.OwnCalls.{OwnOrders}
use Rattle.pos_counter.specs.Machine.{Machine, kind_of, place_of}
use Rattle.pos_counter.specs.Steps.{Answered, Attach, Attached, CallOf, Detach, Detached, OutOfMemory, Request}
use Rattle.pos_counter.specs.Steps.{Response, WorkOn, Worked, device_action, device_rows, refusals}
use Rattle.pos_counter.specs.declared.devices.Devices.{Devices}
use Rattle.pos_counter.specs.declared.faults.WorkFault.{WorkFault}
use Rattle.pos_counter.specs.declared.faults.WorkFault.TheVariants as work_fault

-- how many orders the peripheral of each device was given, in order; none if the device is vacant
abbrev pub orders_of : List Registered → List (Option ℕ)
orders_of list = map (λ device. option_map (λ state. state.orders) device.peripheral) list

-- the same of the devices that a counter keeps
abbrev pub orders_in : {P : Type 0} → Ghosts P → Devices P → List (Option ℕ)
orders_in peripherals devices = orders_of (registered peripherals devices.registry)

-- one more order was given to the peripheral at a place
abbrev pub one_more : ℕ → List (Option ℕ) → List (Option ℕ)
one_more place [] = []
one_more zero (orders ∷ others) = option_map counted orders ∷ others
one_more (suc place) (orders ∷ others) = orders ∷ one_more place others

-- one more order was given at a place, or none without a place
abbrev pub given_at : Option ℕ → List (Option ℕ) → List (Option ℕ)
given_at None orders = orders
given_at (Some place) orders = one_more place orders

-- the action gives an order at once
abbrev pub gives_order : Option Action → Bool
gives_order None = false
gives_order (Some (action.Gives given what)) = true
gives_order (Some (action.Changes what)) = false
gives_order (Some (action.Queues given)) = false

-- the place of the device to which the call of a control gives an order: none if the call's table refuses it, or if it
-- comes to no order
abbrev pub asked_place : Machine → ℕ → Control → Call → Option ℕ
asked_place machine number control asked =
    if is_some (first_refusal (refusals machine number control asked)) then None
    else (if gives_order (device_action control.category (kind_of machine control) control asked)
    then open_place control.device else None)

-- how many orders each peripheral was given before and after the call of a control: one by a call that gives an order,
-- to its device, and none by any other; if memory ran out, perhaps none
abbrev pub OrdersOfControl : Machine → ℕ → Control → Call → Result Answer NoMemory → List (Option ℕ)
    → List (Option ℕ) → Type 0
OrdersOfControl machine number control asked (Ok result) old new =
    new ≡ given_at (asked_place machine number control asked) old
OrdersOfControl machine number control asked (Err want) old new =
    (new ≡ old) ⊎ (new ≡ given_at (asked_place machine number control asked) old)

-- the same of a call on the control with a number: none is given if there is no such control
abbrev pub OrdersOfCall : Machine → ℕ → Call → Result Answer NoMemory → List (Option ℕ) → List (Option ℕ) → Type 0
OrdersOfCall machine number asked outcome old new = MatchOption (slice_get machine.controls number) (new ≡ old)
    (λ control. OrdersOfControl machine number control asked outcome old new)

-- how many orders each peripheral was given before and after work at a place: one by work on a request, and none by
-- idle work; if memory ran out, one or none
abbrev pub OrdersOfWorkAt : Option ℕ → Result WorkResult WorkFault → List (Option ℕ) → List (Option ℕ) → Type 0
OrdersOfWorkAt place (Ok worked.Idle) old new = new ≡ old
OrdersOfWorkAt place (Ok done) old new = new ≡ given_at place old
OrdersOfWorkAt place (Err work_fault.NoDevice) old new = new ≡ old
OrdersOfWorkAt place (Err work_fault.NoMemory) old new = (new ≡ old) ⊎ (new ≡ given_at place old)

-- no other device's count has changed than that of the device at a place
abbrev pub LeavesOthers : Option ℕ → List (Option ℕ) → List (Option ℕ) → Type 0
LeavesOthers None old new = new ≡ old
LeavesOthers (Some place) old new = (count : Option ℕ) × (new ≡ slice_set old place count)

-- how many orders each peripheral was given before and after a request, by its response: those of its call or work, and
-- otherwise none
abbrev pub OrdersOfStep : Machine → Request → Response → List (Option ℕ) → List (Option ℕ) → Type 0
OrdersOfStep machine (CallOf number asked) (Answered result) old new =
    OrdersOfCall machine number asked (Ok result) old new
OrdersOfStep machine (CallOf number asked) OutOfMemory old new =
    OrdersOfCall machine number asked (Err (record {})) old new
OrdersOfStep machine (WorkOn name) (Worked result) old new =
    OrdersOfWorkAt (place_of machine.devices name) (Ok result) old new
OrdersOfStep machine (WorkOn name) OutOfMemory old new =
    OrdersOfWorkAt (place_of machine.devices name) (Err work_fault.NoMemory) old new
-- a peripheral comes to its device, or leaves it: no other device's count changes
OrdersOfStep machine (Attach name hardware) Attached old new = LeavesOthers (place_of machine.devices name) old new
OrdersOfStep machine (Detach name) (Detached hardware) old new =
    LeavesOthers (place_of machine.devices name) old new
OrdersOfStep machine request response old new = new ≡ old

-- The peripheral of the device at a place, which is of a kind, counts its orders so, and no other was given any.
pub record CountsAt (list : List Registered) (place : ℕ) (Counts : Kind → ℕ → ℕ → Type 0) (new : List Registered)
    : Type 0 where
  pub was : PeripheralState
  pub now : PeripheralState
  pub stood : standing_at list place ≡ Some was
  pub counts : Counts was.kind was.orders now.orders
  pub others : new ≡ with_peripheral list place (Some now)

-- how many orders the peripheral of a kind was given before and after a call of a category's own of the control with a
-- number, by the claims of all devices
abbrev pub OrdersAt : ℕ → List (Option ℕ) → Call → Result Answer NoMemory → List Control → Kind → ℕ → ℕ → Type 0
OrdersAt number claims asked outcome controls is old new = MatchOption (slice_get controls number) ⊥ (λ control.
    OwnOrders control.category (device_rows control.category (Some is) control asked)
    (device_action control.category (Some is) control asked) number claims asked outcome control old new)
