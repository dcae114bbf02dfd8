-- The calls of a category's own, by what their check decides and what they come to.
use Rattle.pos_common.proofs.Common.{Answer, Control, Err, Hardware, IsTrue, List, MatchOption, MatchResult, NoMemory}
use Rattle.pos_common.proofs.Common.{None, NothingChanges, Ok, Option, Result, Row, Some, first_refusal, refl}
use Rattle.pos_common.proofs.Common.{slice_get, ℕ, ◌≡◌}
use Rattle.pos_common.specs.OwnCalls.{OwnCall, OwnOrders, own_refusals}
use Rattle.pos_service.specs.Controls.{open_place}
use Rattle.pos_service.specs.Actions.{Does, MayWantFor, OrdersBy, may_want}
use Rattle.pos_service.specs.declared.answer.Answer.TheVariants as answer
use Rattle.pos_service.specs.declared.call.Call.{Call}
use Rattle.pos_service.specs.declared.category.Category.{Category}
use Rattle.pos_service.specs.declared.code.Code.{Code}
use Rattle.pos_service.specs.declared.action.Action.{Action}
use Rattle.pos_common.proofs.CheckLemmas.{refused}

module _ (k : Category) (n : ℕ) (claims : List (Option ℕ)) (asked : Call) (olds : List Control) (one : Control)
    (rows : Control → List Row) (comes_to : Control → Option Action) (found : slice_get olds n ≡ Some one) where
  abbrev refusals : List Row
  refusals = own_refusals k (rows one) n claims asked one

  -- the call of the control with the number
  abbrev pub Called : Result Answer NoMemory → Hardware → List Control → Hardware → Type 0
  Called outcome before new after = MatchOption (slice_get olds n) ⊥
      (λ control. OwnCall k (rows control) (comes_to control) n claims asked outcome control olds before new after)

  -- the orders that it gives
  abbrev pub Ordered : Result Answer NoMemory → ℕ → ℕ → Type 0
  Ordered outcome old new = MatchOption (slice_get olds n) ⊥
      (λ control. OwnOrders k (rows control) (comes_to control) n claims asked outcome control old new)

  -- it is refused
  pub refused_call : (code : Code) (at : Hardware) → first_refusal refusals ≡ Some (answer.Refused code 0)
      → Called (Ok (answer.Refused code 0)) at olds at
  refused_call code at refuses = rw (found) (refused _ _ refuses (record { controls = refl; hardware = refl }))

  -- then it gives no order
  pub refused_orders : (code : Code) (orders : ℕ) → first_refusal refusals ≡ Some (answer.Refused code 0)
      → Ordered (Ok (answer.Refused code 0)) orders orders
  refused_orders code orders refuses = rw (found, refuses) refl

  -- it comes to an action
  pub done_call : (d : Action) (place : ℕ) (outcome : Result Answer NoMemory) (new : List Control)
      (before after : Hardware) → open_place one.device ≡ Some place → first_refusal refusals ≡ None
      → comes_to one ≡ Some d → MayWantFor asked d
      → MatchResult outcome (λ result. Does d n place result olds before new after)
      (λ want. IsTrue (may_want d) × NothingChanges olds before new after) → Called outcome before new after
  done_call d place (Ok result) new before after there none comes wants does =
      rw found (record { outcome = rw (none, comes, there) does })
  done_call d place (Err want) new before after there none comes wants does = rw found (wants does.0, none, does.1)

  -- and gives its orders
  pub done_orders : (d : Action) (outcome : Result Answer NoMemory) (old new : ℕ) → first_refusal refusals ≡ None
      → comes_to one ≡ Some d → OrdersBy d outcome old new → Ordered outcome old new
  done_orders d outcome old new none comes gives = rw (found, none, comes) gives
