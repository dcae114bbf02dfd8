-- The calls of a receipt printer, and the work on the output that waits for it (chapter POS Printer, and common
-- chapter, asynchronous output and error handling).
use Rattle.std.specs.Prelude.{Bool, List, MatchOption, MatchResult, None, Ok, Option, Result, Some, [], false}
use Rattle.std.specs.Prelude.{if◌then◌else◌, nat_abs, negsuc, not, pos, slice_get, ℕ, ℤ, ◌&&◌, ◌==◌, ◌∷◌, ◌≡◌}
use Rattle.std.specs.Option.{option_and_then, option_map}
use Rattle.pos_service.specs.declared.answer.Answer.{Answer}
use Rattle.pos_service.specs.declared.call.Call.{Call}
use Rattle.pos_service.specs.declared.call.Call.TheVariants as call
use Rattle.pos_service.specs.declared.category.Category.TheVariants as category
use Rattle.pos_service.specs.declared.code.Code.TheVariants as code
use Rattle.pos_service.specs.declared.action.ControlUpdate.TheVariants as change
use Rattle.pos_service.specs.declared.action.Action.{Action}
use Rattle.pos_service.specs.declared.action.Action.TheVariants as action
use Rattle.pos_service.specs.declared.kind.Kind.{Kind}
use Rattle.pos_service.specs.declared.faults.NoMemory.{NoMemory}
use Rattle.pos_service.specs.declared.order.Order.{Order}
use Rattle.pos_service.specs.declared.order.Order.TheVariants as order
use Rattle.pos_service.specs.declared.order.Reply.{Reply}
use Rattle.pos_service.specs.declared.order.Reply.TheVariants as reply
use Rattle.pos_service.specs.declared.answer.WorkResult.{WorkResult}
use Rattle.pos_service.specs.declared.answer.WorkResult.TheVariants as worked
use Rattle.pos_service.specs.Codes.{code_by, extended_by}
use Rattle.pos_common.specs.DueRequests.{first_request}
use Rattle.pos_common.specs.OwnCalls.{OwnCall, OwnOrders}
use Rattle.pos_service.specs.Controls.{Control, completed, output_failed}
use Rattle.pos_service.specs.Actions.{ChangesOne, GivesOne, Ordered}
use Rattle.pos_service.specs.Kinds.{is_printer}
use Rattle.pos_service.specs.Numbers.{is_up_to}
use Rattle.pos_service.specs.Output.{is_outstanding}
use Rattle.pos_service.specs.Receipts.{is_printable_text}
use Rattle.pos_service.specs.Refusals.{Row, when}
use Rattle.pos_service.specs.Hardware.{Effect, Hardware, NothingChanges}

-- the station of the receipt
abbrev pub is_receipt : ℤ → Bool
is_receipt (pos n) = n == 2
is_receipt (negsuc n) = false

-- a synchronous request has to be refused, because others are queued
abbrev pub is_busy : Control → Bool
is_busy control = not control.settings.async_mode && is_outstanding control.writer.output

-- a station and a text, in this order
abbrev pub text_rows : ℤ → List ℕ → List Row
text_rows station text =
    when (not (is_receipt station)) code.Illegal
    ∷ when (not (is_printable_text text)) code.Illegal ∷ []

-- the arguments of each call, in order, then whether it is a synchronous request while others are queued (but for
-- printImmediate)
abbrev pub printer_rows : Control → Call → List Row
printer_rows control (call.PrintNormal station text) =
    when (not (is_receipt station)) code.Illegal
    ∷ when (not (is_printable_text text)) code.Illegal
    ∷ when (is_busy control) code.Busy ∷ []
printer_rows control (call.PrintImmediate station text) = text_rows station text
printer_rows control (call.CutPaper percentage) =
    when (not (is_up_to 100 percentage)) code.Illegal
    ∷ when (is_busy control) code.Busy ∷ []
printer_rows control asked = []

-- a request: it is queued if AsyncMode is true, otherwise done at once
abbrev pub request_of : Control → Order → Action
request_of control given = if control.settings.async_mode then action.Queues given
    else action.Gives given change.Nothing

-- a text is printed at once
abbrev pub immediately : List ℕ → Action
immediately text = action.Gives (order.Print text) change.Nothing

-- what each call of a control comes to
abbrev pub printer_action : Control → Call → Option Action
printer_action control (call.PrintNormal station text) = Some (request_of control (order.Print text))
printer_action control (call.PrintImmediate station text) = Some (immediately text)
printer_action control (call.CutPaper percentage) = Some (request_of control (order.Cut (nat_abs percentage)))
printer_action control call.ClearOutput = Some (action.Changes change.Output)
printer_action control asked = None

-- A call of the control with a number at its printer, by the claims of all devices.
abbrev pub PrinterCall : ℕ → List (Option ℕ) → Call → Result Answer NoMemory → Effect
PrinterCall number claims asked outcome old before new after = MatchOption (slice_get old number) ⊥ (λ control.
    OwnCall category.PosPrinter (printer_rows control asked) (printer_action control asked) number claims asked outcome
    control old before new after)

-- how many orders the printer was given before and after it
abbrev pub PrinterOrders : ℕ → List (Option ℕ) → Call → Result Answer NoMemory → List Control → ℕ → ℕ → Type 0
PrinterOrders number claims asked outcome controls old new = MatchOption (slice_get controls number) ⊥ (λ control.
    OwnOrders category.PosPrinter (printer_rows control asked)
    (printer_action control asked) number claims asked outcome
    control old new)

-- The work on output.

-- a request that is to be done now: the control whose request it is, its OutputID, and its order
pub record DueRequest : Type 0 where
  pub holder : ℕ
  pub id : ℕ
  pub given : Order

-- a request of a control, as one that is to be done now
abbrev pub due_request : ℕ → ℕ × Order → DueRequest
due_request holder request = record { holder = holder; id = request.0; given = request.1 }

-- the request that is to be done now at a place with a device of this kind: the first of the control that holds the
-- device, and only at a printer
abbrev pub due_request_at : Kind → ℕ → Option ℕ → List Control → Option DueRequest
due_request_at is place None controls = None
due_request_at is place (Some holder) controls =
    if is_printer is
    then option_map (due_request holder) (option_and_then (first_request place) (slice_get controls holder))
    else None

-- what is reported of a request with an OutputID, by the printer's reply to its order
abbrev pub worked_by : ℕ → Reply → WorkResult
worked_by id reply.Done = worked.Done id
worked_by id said = worked.Failed (code_by said) (extended_by said)

-- the control whose first request has this OutputID, after the printer's reply to its order
abbrev pub after_work : ℕ → Reply → Control → Control
after_work id reply.Done control = completed id control
after_work id said control = output_failed (code_by said) (extended_by said) control

-- A request is worked on: the printer is given its order, and then it is done or has failed. So the statuses that have
-- changed come before its OutputCompleteEvent.
pub record WorksOn (due : DueRequest) (place : ℕ) (result : WorkResult)
    (old : List Control) (before : Hardware) (new : List Control) (after : Hardware) : Type 0 where
  pub said : Reply
  pub controls : List Control
  pub ordered : Ordered due.given place said old before controls after
  pub worked : ChangesOne (after_work due.id said) due.holder controls new
  pub answer : result ≡ worked_by due.id said

-- how many orders the printer was given before and after: work on a request gives one, and idle work none
abbrev pub OrdersOfWork : Result WorkResult NoMemory → ℕ → ℕ → Type 0
OrdersOfWork (Ok worked.Idle) old new = new ≡ old
OrdersOfWork outcome old new = GivesOne outcome old new

-- Work at a place whose device this control holds: on the request that is to be done there now, if there is one.
-- Memory is wanted only for such a request, and then nothing changes.
abbrev pub WorksAt : Option ℕ → ℕ → Result WorkResult NoMemory → Effect
WorksAt holder place outcome old before new after = MatchOption (due_request_at before.kind place holder old)
    ((outcome ≡ Ok worked.Idle) × NothingChanges old before new after)
    (λ work. MatchResult outcome
    (λ result. WorksOn work place result old before new after)
    (λ want. NothingChanges old before new after))
