-- What the check of a control decides of a call's table.
use Rattle.pos_common.proofs.Common.{Answer, Bool, Control, Decided, Err, Gets, KeptControl, List, NoMemory, None, Ok}
use Rattle.pos_common.proofs.Common.{Option, Result, Row, SetsTo, Some, [], arith, first_refusal, is_none, not}
use Rattle.pos_common.proofs.Common.{refl, true, when, ℕ, ◌&&◌, ◌∷◌, ◌≡◌}
use Rattle.pos_common.specs.Checks.{Checks}
use Rattle.pos_service.specs.Claims.{is_foreign}
use Rattle.pos_service.specs.Needs.{needs_holder, needs_no_other, table}
use Rattle.pos_service.specs.declared.answer.Value.{Value}
use Rattle.pos_service.specs.declared.code.Code.{Code}
use Rattle.pos_service.specs.declared.needs.Needs.{Needs}
use Rattle.pos_service.specs.declared.property.Property.{Property}
use Rattle.pos_service.specs.declared.answer.Answer.TheVariants as answer
use Rattle.pos_service.specs.declared.code.Code.TheVariants as code

-- a table that refuses
pub refused : {rows : List Row} {refusal : Answer} (Same Done : Type 0) → first_refusal rows ≡ Some refusal → Same
    → Decided rows refusal Same Done
refused Same Done is same = record { outcome = rw is (refl, same) }

-- a table that decides as its rest does
pub decided_by_rest : {rows rest : List Row} {result : Answer} (Same Done : Type 0)
    → first_refusal rows ≡ first_refusal rest → Decided rest result Same Done → Decided rows result Same Done
decided_by_rest Same Done is decided = record { outcome = rw is decided.outcome }

-- a property is told so
pub gets_by_rest : (rows rest : List Row) (p : Property) (v : Value) (outcome : Result Answer NoMemory)
    → first_refusal rows ≡ first_refusal rest → Gets rest p v outcome → Gets rows p v outcome
gets_by_rest rows rest p v outcome is gets = grind (arith, decided_by_rest)

-- a property is set so
pub sets_by_rest : (rows rest : List Row) (tells : Bool) (outcome : Result Answer NoMemory) (old new : KeptControl)
    (control : Control) → first_refusal rows ≡ first_refusal rest → SetsTo rest tells outcome old new control
    → SetsTo rows tells outcome old new control
sets_by_rest rows rest tells outcome old new control is sets = grind (arith, decided_by_rest)

lets_there : (closed is_there : Bool) (rows : List Row)
    → first_refusal (when closed code.Closed ∷ when (not is_there) code.Illegal ∷ rows) ≡ None → is_there ≡ true
lets_there closed is_there rows none = grind arith

-- what a table asks behind the category
abbrev claim_rows : ℕ → Option ℕ → Control → Needs → List Row
claim_rows number holder control needs = when (needs_no_other needs.claim && is_foreign number holder) code.Claimed
    ∷ when (needs_holder needs.claim && is_none holder) code.NotClaimed
    ∷ when (needs.is_enabled && not control.enabled) code.Disabled ∷ []

-- what is asked of a category of which two things are, has the second
pub asks_second : (number : ℕ) (holder : Option ℕ) (control : Control) (needs : Needs) (a b : Bool)
    → needs.is_there ≡ (a && b) → Checks number holder control needs (Ok tt) → b ≡ true
asks_second number holder control needs a b is checks = grind (
  arith,
  lets_there (needs.is_open && is_none control.device) needs.is_there (claim_rows number holder control needs)
      (checks []),
)

-- one of a category that has what is asked
pub lets_own : (number : ℕ) (holder : Option ℕ) (control : Control) (needs : Needs)
    → first_refusal (table number holder control needs []) ≡ None → needs.is_there ≡ true
lets_own number holder control needs none =
    lets_there (needs.is_open && is_none control.device) needs.is_there (claim_rows number holder control needs) none

-- the check has let a control through: the rest of each table decides
pub let_through : (number : ℕ) (holder : Option ℕ) {holds : Option ℕ} (control : Control) {needs asked : Needs}
    {outcome : Result (Unit {0}) Code} {u : Unit {0}} → outcome ≡ Ok u → holder ≡ holds → needs ≡ asked
    → Checks number holder control needs outcome → (rest : List Row)
    → first_refusal (table number holds control asked rest) ≡ first_refusal rest
let_through number holder control ok is are checks rest = rw (ok, is, are) at (checks rest)

-- it has refused it, whatever the rest
pub kept_out : (number : ℕ) (holder : Option ℕ) {holds : Option ℕ} (control : Control) {needs asked : Needs}
    {outcome : Result (Unit {0}) Code} {code : Code} → outcome ≡ Err code → holder ≡ holds → needs ≡ asked
    → Checks number holder control needs outcome → (rest : List Row)
    → first_refusal (table number holds control asked rest) ≡ Some (answer.Refused code 0)
kept_out number holder control err is are checks rest = rw (err, is, are) at (checks rest)
