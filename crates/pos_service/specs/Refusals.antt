-- Refusals in order: a call's table is a list of conditions, each with the codes of its refusal.
use Rattle.std.specs.Prelude.{◌≡◌, ℕ, Bool, List, [], ◌∷◌, Option, Some, None, MatchOption, if◌then◌else◌}
use Rattle.pos_service.specs.declared.answer.Answer.{Answer}
use Rattle.pos_service.specs.declared.answer.Answer.TheVariants as answer
use Rattle.pos_service.specs.declared.code.Code.{Code}

-- a condition, and the result code and the extended code of the refusal where it is the first that holds
pub record Row : Type 0 where
  pub applies : Bool
  pub code : Code
  pub extended : ℕ

-- a row of a table: the code where the condition holds, and no extended code
abbrev pub when : Bool → Code → Row
when applies code = record { applies = applies; code = code; extended = 0 }

-- the refusal of the first condition that holds
abbrev pub first_refusal : List Row → Option Answer
first_refusal [] = None
first_refusal (row ∷ rows) =
    if row.applies then Some (answer.Refused row.code row.extended) else first_refusal rows

-- The answer is that of the first condition that holds, and then nothing changes. Where none holds, the call does what
-- it does.
pub record Decided (rows : List Row) (result : Answer) (Same : Type 0) (Done : Type 0) : Type 0 where
  pub outcome : MatchOption (first_refusal rows) Done (λ refusal. (result ≡ refusal) × Same)
