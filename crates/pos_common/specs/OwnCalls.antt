-- The calls of a category's own, at the device of the control that makes them (common chapter).
use Rattle.std.specs.Prelude.{IsTrue, List, MatchOption, MatchResult, None, Option, Result, Some, is_none, true, ℕ, ◌∷◌}
use Rattle.std.specs.Prelude.{◌≡◌}
use Rattle.pos_service.specs.declared.answer.Answer.{Answer}
use Rattle.pos_service.specs.declared.answer.Answer.TheVariants as answer
use Rattle.pos_service.specs.declared.call.Call.{Call}
use Rattle.pos_service.specs.declared.category.Category.{Category}
use Rattle.pos_service.specs.declared.code.Code.{Code}
use Rattle.pos_service.specs.declared.code.Code.TheVariants as code
use Rattle.pos_service.specs.declared.action.Action.{Action}
use Rattle.pos_service.specs.declared.faults.NoMemory.{NoMemory}
use Rattle.pos_service.specs.Calls.{has_call, needs_of, takes_memory}
use Rattle.pos_service.specs.Claims.{holder_at}
use Rattle.pos_service.specs.Controls.{Control, open_place}
use Rattle.pos_service.specs.Actions.{Does, OrdersBy}
use Rattle.pos_service.specs.Hardware.{Effect, NothingChanges}
use Rattle.pos_service.specs.Needs.{table}
use Rattle.pos_service.specs.Refusals.{Decided, Row, first_refusal, when}

-- the refusals of a call of a category's own on the control with a number: that it has no device with a place open,
-- what it asks of the control, by the claims of all devices, and then the category's rows
abbrev pub own_refusals : Category → List Row → ℕ → List (Option ℕ) → Call → Control → List Row
own_refusals c rows number claims asked control =
    let place = open_place control.device in
    when (is_none place) code.Closed ∷ table number (holder_at claims place) control (needs_of c asked) rows

-- What the check of the control decides of such a call. The device is at this place, the category has the call, and its
-- rows decide. Otherwise the call is refused with a code, whatever the rows.
abbrev pub ChecksCall : Category → ℕ → List (Option ℕ) → Call → Control → Result ℕ Code → Type 0
ChecksCall c number claims asked control outcome = MatchResult outcome
    (λ place. (open_place control.device ≡ Some place) × (has_call c asked ≡ true)
    × ((rows : List Row) → first_refusal (own_refusals c rows number claims asked control) ≡ first_refusal rows))
    (λ code. (rows : List Row) →
    first_refusal (own_refusals c rows number claims asked control) ≡ Some (answer.Refused code 0))

-- what it does at the control's device: what it comes to
abbrev pub OwnDoes : Option Action → ℕ → Answer → Control → Effect
OwnDoes comes_to number result control old before new after = MatchOption (open_place control.device) ⊥ (λ place.
    MatchOption comes_to ⊥ (λ action. Does action number place result old before new after))

-- Such a call, by the category's rows and what it comes to: it is refused by its table, which changes nothing, or it
-- does what it comes to. Only a call that may want memory and that nothing refuses may fail for want of it, and then
-- nothing changes.
abbrev pub OwnCall : Category → List Row → Option Action → ℕ → List (Option ℕ) → Call → Result Answer NoMemory → Control
    → Effect
OwnCall c rows comes_to number claims asked outcome control old before new after =
    let refusals = own_refusals c rows number claims asked control in MatchResult outcome
    (λ result. Decided refusals result (NothingChanges old before new after)
    (OwnDoes comes_to number result control old before new after))
    (λ want. IsTrue (takes_memory asked) × (first_refusal refusals ≡ None) × NothingChanges old before new after)

-- how many orders the peripheral was given before and after: none by a call that its table refuses, otherwise those of
-- what it comes to
abbrev pub OwnOrders : Category → List Row → Option Action → ℕ → List (Option ℕ) → Call → Result Answer NoMemory
    → Control → ℕ → ℕ → Type 0
OwnOrders c rows comes_to number claims asked outcome control old new =
    MatchOption (first_refusal (own_refusals c rows number claims asked control))
    (MatchOption comes_to (new ≡ old) (λ action. OrdersBy action outcome old new))
    (λ refusal. new ≡ old)
