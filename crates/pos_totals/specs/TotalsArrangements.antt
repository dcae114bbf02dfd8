-- What a control arranges for itself: claimFile, releaseFile, beginTrans, rollback (chapter Hard Totals).
use Rattle.std.specs.Prelude.{◌≡◌, ℕ, ℤ, Bool, false, not, ◌&&◌, ◌||◌, List, [], ◌∷◌, slice_get, Option, Some, None}
use Rattle.std.specs.Prelude.{is_none}
use Rattle.std.specs.List.{find}
use Rattle.std.specs.Option.{option_flatten}
use Rattle.pos_service.specs.declared.answer.Answer.{Answer}
use Rattle.pos_service.specs.declared.answer.Answer.TheVariants as answer
use Rattle.pos_service.specs.declared.answer.Value.TheVariants as value
use Rattle.pos_service.specs.declared.call.Call.{Call}
use Rattle.pos_service.specs.declared.call.Call.TheVariants as call
use Rattle.pos_service.specs.declared.code.Code.TheVariants as code
use Rattle.pos_service.specs.Claims.{is_foreign, is_timeout}
use Rattle.pos_service.specs.Refusals.{Row, when, Decided}
use Rattle.pos_totals.specs.HardTotals.{File, Change, Totals, with_transaction, with_files}
use Rattle.pos_totals.specs.declared.arrangements.Arrangement.{Arrangement as Asked}
use Rattle.pos_totals.specs.declared.arrangements.Arrangement.TheVariants as asked
use Rattle.pos_totals.specs.declared.claims.ClaimRequest.{ClaimRequest}
use Rattle.pos_totals.specs.declared.claims.ClaimRequest.TheVariants as claiming
use Rattle.pos_totals.specs.TotalsFiles.{is_called, has_file, is_own_file, is_foreign_file, with_each}
use Rattle.pos_totals.specs.TotalsRows.{while_ready}

-- an arrangement that a control makes for itself, as a call asks for it, without the disk: claimFile, releaseFile,
-- beginTrans, rollback
pub data Arrangement : Type 0 where
  ClaimFile : (handle timeout : ℤ) → Arrangement
  ReleaseFile : (handle : ℤ) → Arrangement
  BeginTrans : Arrangement
  Rollback : Arrangement

-- the arrangement that is asked for
abbrev pub arrangement_of : Asked → Arrangement
arrangement_of (asked.ClaimFile handle timeout) = ClaimFile handle timeout
arrangement_of (asked.ReleaseFile handle) = ReleaseFile handle
arrangement_of asked.BeginTrans = BeginTrans
arrangement_of asked.Rollback = Rollback

-- the arrangement that a call makes, if it makes one
abbrev pub arrangement_asked : Call → Option Arrangement
arrangement_asked (call.ClaimFile handle timeout) = Some (ClaimFile handle timeout)
arrangement_asked (call.ReleaseFile handle) = Some (ReleaseFile handle)
arrangement_asked call.BeginTrans = Some BeginTrans
arrangement_asked call.Rollback = Some Rollback
arrangement_asked other = None

-- the arrangement of a file's claim that a control makes, and the claim that the file has then
abbrev pub arrangement_by : ℤ → ClaimRequest → Arrangement
arrangement_by handle (claiming.Claim timeout) = ClaimFile handle timeout
arrangement_by handle claiming.Release = ReleaseFile handle

abbrev pub claim_after : ℕ → ClaimRequest → Option ℕ
claim_after control (claiming.Claim timeout) = Some control
claim_after control claiming.Release = None

-- a transaction may begin: the control has a place for one, and is in none
abbrev pub may_begin : Option (Option (List Change)) → Bool
may_begin None = false
may_begin (Some transaction) = is_none transaction

-- The refusals of each arrangement, in their order: by the claim of the area, the control's place for a transaction,
-- and the files.
abbrev pub arrangement_rows : Option ℕ → Option (Option (List Change)) → List File → ℕ → Arrangement → List Row
arrangement_rows area place files control (ClaimFile handle timeout) =
    when (not (has_file (is_called handle) files && is_timeout timeout)) code.Illegal
    ∷ when (is_foreign control area || is_foreign_file control (find (is_called handle) files)) code.Timeout
    ∷ []
arrangement_rows area place files control (ReleaseFile handle) =
    when (not (is_own_file control (find (is_called handle) files))) code.Illegal ∷ []
arrangement_rows area place files control BeginTrans = when (not (may_begin place)) code.Illegal ∷ []
arrangement_rows area place files control Rollback = when (is_none (option_flatten place)) code.Illegal ∷ []

-- E_FAILURE while the totals are off, and otherwise the rows above
abbrev pub refusals_of_arrangement : Totals → ℕ → Arrangement → List Row
refusals_of_arrangement totals control arrangement =
    let place = slice_get totals.transactions control in
    while_ready totals.mode (λ files. arrangement_rows totals.area place files control arrangement)

-- the file with another claim
abbrev pub claimed : Option ℕ → File → File
claimed claim file = record file { claim = claim }

-- The totals after each arrangement: the file is claimed, or no longer; the control has buffered nothing yet, or is in
-- no transaction any more.
abbrev pub after_arrangement : Totals → ℕ → Arrangement → Totals
after_arrangement totals control (ClaimFile handle timeout) =
    record totals { mode = with_files (with_each (is_called handle) (claimed (Some control))) totals.mode }
after_arrangement totals control (ReleaseFile handle) =
    record totals { mode = with_files (with_each (is_called handle) (claimed None)) totals.mode }
after_arrangement totals control BeginTrans = with_transaction totals control (Some [])
after_arrangement totals control Rollback = with_transaction totals control None

-- An arrangement is answered by its table, and then made. It takes no memory.
abbrev pub Arranges : Totals → ℕ → Arrangement → Answer → Totals → Type 0
Arranges old control arrangement result new =
    Decided (refusals_of_arrangement old control arrangement) result (new ≡ old)
    ((result ≡ answer.Done value.Empty) × (new ≡ after_arrangement old control arrangement))
