-- The commit of a transaction (chapter Hard Totals, commitTrans).
use Rattle.std.specs.Prelude.{◌≡◌, ◌⊎◌, ℕ, Bool, true, List, [], ◌∷◌, Option, Some, None, is_none, Result, MatchResult}
use Rattle.std.specs.Prelude.{if◌then◌else◌}
use Rattle.std.specs.List.{list_any}
use Rattle.pos_service.specs.declared.answer.Answer.{Answer}
use Rattle.pos_service.specs.declared.answer.Answer.TheVariants as answer
use Rattle.pos_service.specs.declared.answer.Value.TheVariants as value
use Rattle.pos_service.specs.declared.code.Code.TheVariants as code
use Rattle.pos_service.specs.declared.faults.NoMemory.{NoMemory}
use Rattle.pos_service.specs.Refusals.{Row, when, first_refusal, Decided}
use Rattle.pos_totals.specs.HardTotals.{File, Change, Totals, transaction_of, with_transaction, changes_in}
use Rattle.pos_totals.specs.TotalsFiles.{is_foreign_file}
use Rattle.pos_totals.specs.TotalsChanges.{changed_file, RunsOut, Done}
use Rattle.pos_totals.specs.TotalsRows.{while_ready, when_foreign_area}

-- a buffered change is of a file that is gone
abbrev pub is_of_none : List File → Change → Bool
is_of_none files change = is_none (changed_file files change)

-- a buffered change is of a file that another control has claimed
abbrev pub is_of_foreign : List File → ℕ → Change → Bool
is_of_foreign files control change = is_foreign_file control (changed_file files change)

-- The refusals of a commit, in their order.
abbrev pub commit_rows : List File → ℕ → Option (List Change) → List Row
commit_rows files control None = when true code.Illegal ∷ []
commit_rows files control (Some buffer) =
    when (list_any (is_of_none files) buffer) code.NoExist
    ∷ when (list_any (is_of_foreign files control) buffer) code.Claimed
    ∷ []

abbrev pub refusals_of_commit : Totals → ℕ → List Row
refusals_of_commit totals control =
    when_foreign_area totals control
    ∷ while_ready totals.mode (λ files. commit_rows files control (transaction_of totals control))

-- A commit that its table allows ends the transaction. Without changes it does no more; else all changes are done
-- together, in their order, if the sequences don't run out.
abbrev pub DoesCommit : Type 0 → Totals → Totals → List Change → Answer → Totals → Type 0
DoesCommit DiskFailed old ended [] result new = (result ≡ answer.Done value.Empty) × (new ≡ ended)
DoesCommit DiskFailed old ended (change ∷ changes) result new =
    RunsOut old (change ∷ changes) result new ⊎ Done DiskFailed ended (change ∷ changes) value.Empty result new

-- A commit is answered by its table, and then does what it does. Memory runs out only after the table, and then nothing
-- changes.
abbrev pub Committed : Type 0 → Totals → ℕ → Result Answer NoMemory → Totals → Type 0
Committed DiskFailed old control outcome new = MatchResult outcome
    (λ result.
    Decided (refusals_of_commit old control) result (new ≡ old)
    (DoesCommit DiskFailed old (with_transaction old control None) (changes_in (transaction_of old control))
    result new))
    (λ want. (first_refusal (refusals_of_commit old control) ≡ None) × (new ≡ old))

-- the group of changes that a commit puts on the disk: none if it is refused
abbrev pub group_by_commit : Totals → ℕ → List Change
group_by_commit totals control =
    if is_none (first_refusal (refusals_of_commit totals control)) then changes_in (transaction_of totals control)
    else []
