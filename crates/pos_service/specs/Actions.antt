-- What a call comes to that nothing refuses, at a device with a peripheral (common chapter, and those of the
-- categories).
use Rattle.std.specs.Prelude.{Bool, IsTrue, List, MatchOption, MatchResult, None, Option, Result, Some, [], false}
use Rattle.std.specs.Prelude.{slice_get, slice_set, true, ℕ, ⊤, ◌==◌, ◌∷◌, ◌≡◌, ◌⊎◌}
use Rattle.pos_service.specs.declared.answer.Answer.{Answer}
use Rattle.pos_service.specs.declared.answer.Answer.TheVariants as answer
use Rattle.pos_service.specs.declared.answer.Value.TheVariants as value
use Rattle.pos_service.specs.declared.call.Call.{Call}
use Rattle.pos_service.specs.declared.code.Code.{Code}
use Rattle.pos_service.specs.declared.code.Code.TheVariants as code
use Rattle.pos_service.specs.declared.action.ControlUpdate.{ControlUpdate}
use Rattle.pos_service.specs.declared.action.ControlUpdate.TheVariants as change
use Rattle.pos_service.specs.declared.action.Action.{Action}
use Rattle.pos_service.specs.declared.action.Action.TheVariants as action
use Rattle.pos_service.specs.declared.kind.Kind.{Kind}
use Rattle.pos_service.specs.declared.faults.NoMemory.{NoMemory}
use Rattle.pos_service.specs.declared.order.Order.{Order}
use Rattle.pos_service.specs.declared.order.Reply.{Reply}
use Rattle.pos_service.specs.declared.order.Reply.TheVariants as reply
use Rattle.pos_service.specs.Calls.{takes_memory}
use Rattle.pos_service.specs.Codes.{code_by, extended_by}
use Rattle.pos_service.specs.Controls.{Control, all_listening, queued, with_place, without_input, without_output}
use Rattle.pos_service.specs.Controls.{without_scan}
use Rattle.pos_service.specs.Output.{last_output_id}
use Rattle.pos_service.specs.Peripherals.{Performs, PrintersTake, Rose, counted, order_fits, signs_of}
use Rattle.pos_service.specs.Refusals.{Decided, Row, first_refusal, when}
use Rattle.pos_service.specs.Hardware.{Effect, Hardware, NothingChanges}
use Rattle.pos_service.specs.Statuses.{heard_signs}

-- One more order was given than before; or, where memory was wanted before there was room for what comes of it, none.
abbrev pub GivesOne : {T : Type 0} → Result T NoMemory → ℕ → ℕ → Type 0
GivesOne outcome old new = MatchResult outcome
    (λ done. new ≡ counted old)
    (λ want. (new ≡ old) ⊎ (new ≡ counted old))

-- The peripheral has carried out an order, and each control that listens hears the statuses that have changed.
pub record CarriedOut (given : Order) (place : ℕ)
    (old : List Control) (before : Hardware) (new : List Control) (after : Hardware) : Type 0 where
  pub plant : Performs given before.plant reply.Done after.plant
  pub hardware : after ≡ record before { plant = after.plant }
  pub controls : new ≡ all_listening place
      (heard_signs (signs_of before.kind before.plant) (signs_of after.kind after.plant)) old

-- The peripheral has said why it does nothing, and nothing has changed.
pub record Hindered (given : Order) (said : Reply)
    (old : List Control) (before : Hardware) (new : List Control) (after : Hardware) : Type 0 where
  pub plant : Performs given before.plant said after.plant
  pub same : NothingChanges old before new after

-- The line to the device fails, and nothing else changes.
pub record LineFailed (old : List Control) (before : Hardware) (new : List Control) (after : Hardware) : Type 0 where
  pub failures : Rose before.failures after.failures
  pub hardware : after ≡ record before { failures = after.failures }
  pub controls : new ≡ old

-- What comes of an order that the peripheral says this to.
abbrev pub Ordered : Order → ℕ → Reply → Effect
Ordered given place reply.Done old before new after = CarriedOut given place old before new after
Ordered given place reply.LineFault old before new after = LineFailed old before new after
Ordered given place said old before new after = Hindered given said old before new after

-- what a call answers, once the peripheral has said this to its order
abbrev pub answer_by : Reply → Answer
answer_by reply.Done = answer.Done value.Empty
answer_by said = answer.Refused (code_by said) (extended_by said)

-- the control, once a call is done that changes this of it
abbrev pub changed : ControlUpdate → Control → Control
changed change.Nothing control = control
changed (change.Cursor place) control = with_place place control
changed change.Input control = without_input control
changed change.InputProperties control = without_scan control
changed change.Output control = without_output control

-- The control with a number changes, and no other does.
abbrev pub ChangesOne : (Control → Control) → ℕ → List Control → List Control → Type 0
ChangesOne change number old new = MatchOption (slice_get old number) ⊥ (λ control.
    new ≡ slice_set old number (change control))

-- The control with a number changes, once the peripheral has done an order; else none does.
abbrev pub Follows : Reply → ControlUpdate → ℕ → List Control → List Control → Type 0
Follows reply.Done what number old new = ChangesOne (changed what) number old new
Follows said what number old new = new ≡ old

-- The peripheral is given an order; it says something to it, and the controls that listen hear what has changed; then
-- the control with the number changes, where the order was done.
pub record GivesOrder (given : Order) (what : ControlUpdate) (number place : ℕ) (result : Answer)
    (old : List Control) (before : Hardware) (new : List Control) (after : Hardware) : Type 0 where
  pub said : Reply
  pub heard : List Control
  pub ordered : Ordered given place said old before heard after
  pub follows : Follows said what number heard new
  pub answer : result ≡ answer_by said

-- The control with a number has changed, which is done and gives nothing, and nothing else changes.
pub record ChangesItself (what : ControlUpdate) (number : ℕ) (result : Answer)
    (old : List Control) (before : Hardware) (new : List Control) (after : Hardware) : Type 0 where
  pub done : result ≡ answer.Done value.Empty
  pub controls : ChangesOne (changed what) number old new
  pub hardware : after ≡ before

-- The request of the control with a number is queued behind its others, and nothing else changes.
pub record Queued (given : Order) (number : ℕ) (result : Answer)
    (old : List Control) (before : Hardware) (new : List Control) (after : Hardware) : Type 0 where
  pub done : result ≡ answer.Done value.Empty
  pub controls : ChangesOne (queued given) number old new
  pub hardware : after ≡ before

-- the refusal of a request for which no OutputID is left
abbrev pub id_rows : Control → List Row
id_rows control = when (control.writer.output.next == last_output_id) code.Failure ∷ []

-- A request of the control with a number is queued, where an OutputID is left for it.
abbrev pub QueuesOrder : Order → ℕ → Answer → Effect
QueuesOrder given number result old before new after = MatchOption (slice_get old number) ⊥ (λ control.
    Decided (id_rows control) result (NothingChanges old before new after)
    (Queued given number result old before new after))

-- What the call of the control with a number comes to, with the device at a place.
abbrev pub Does : Action → ℕ → ℕ → Answer → Effect
Does (action.Gives given what) number place result old before new after =
    GivesOrder given what number place result old before new after
Does (action.Changes what) number place result old before new after =
    ChangesItself what number result old before new after
Does (action.Queues given) number place result old before new after =
    QueuesOrder given number result old before new after

-- how many orders the peripheral was given before and after: an action gives one, or none
abbrev pub OrdersBy : {T : Type 0} → Action → Result T NoMemory → ℕ → ℕ → Type 0
OrdersBy (action.Gives given what) outcome old new = GivesOne outcome old new
OrdersBy (action.Changes what) outcome old new = new ≡ old
OrdersBy (action.Queues given) outcome old new = new ≡ old

-- it may want memory: for the room of events, or for a request
abbrev pub may_want : Action → Bool
may_want (action.Gives given what) = true
may_want (action.Changes what) = false
may_want (action.Queues given) = true

-- A peripheral of this kind takes the order of an action, now or later.
abbrev pub ActionFits : Kind → Action → Type 0
ActionFits is (action.Gives given what) = order_fits is given ≡ true
ActionFits is (action.Changes what) = ⊤
ActionFits is (action.Queues given) = PrintersTake given

-- Every printer takes the order of an action, now or later.
abbrev pub PrintersDo : Action → Type 0
PrintersDo (action.Gives given what) = PrintersTake given
PrintersDo (action.Changes what) = ⊤
PrintersDo (action.Queues given) = PrintersTake given

-- A call that comes to this action may want memory where that does.
abbrev pub MayWantFor : Call → Action → Type 0
MayWantFor asked comes_to = IsTrue (may_want comes_to) → IsTrue (takes_memory asked)

-- A call of a category's own that its control may make: it is refused by its arguments, or comes to this action, which
-- fits. Memory is wanted only by a call that may want some, behind the arguments.
abbrev pub Plans : List Row → Option Action → (Action → Type 0) → Call → Result (Result Action Code) NoMemory → Type 0
Plans rows comes_to Fits asked outcome = MatchResult outcome
    (λ found. MatchResult found
    (λ action. (first_refusal rows ≡ None) × (comes_to ≡ Some action) × Fits action × MayWantFor asked action)
    (λ code. first_refusal rows ≡ Some (answer.Refused code 0)))
    (λ want. IsTrue (takes_memory asked) × (first_refusal rows ≡ None))
