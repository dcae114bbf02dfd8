-- The check of a control before anything else.
use Rattle.std.specs.Prelude.{◌≡◌, ℕ, List, Option, Some, Result, MatchResult}
use Rattle.pos_service.specs.declared.answer.Answer.TheVariants as answer
use Rattle.pos_service.specs.declared.code.Code.{Code}
use Rattle.pos_service.specs.declared.needs.Needs.{Needs}
use Rattle.pos_service.specs.Controls.{Control}
use Rattle.pos_service.specs.Needs.{table}
use Rattle.pos_service.specs.Refusals.{Row, first_refusal}

-- The control with a number, whose device has this holder, is as it has to be, and the rest of the table decides.
-- Otherwise the table refuses it with a code, whatever the rest.
abbrev pub Checks : ℕ → Option ℕ → Control → Needs → Result (Unit {0}) Code → Type 0
Checks number holder control needs outcome = (rest : List Row) → MatchResult outcome
    (λ _. first_refusal (table number holder control needs rest) ≡ first_refusal rest)
    (λ code. first_refusal (table number holder control needs rest) ≡ Some (answer.Refused code 0))
