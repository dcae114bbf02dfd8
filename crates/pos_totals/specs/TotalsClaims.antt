-- Claims of the area and the end of a control (chapter Hard Totals; common chapter, claim, release, close).
use Rattle.std.specs.Prelude.{◌≡◌, ℕ, Bool, true, false, ◌||◌, slice_set, Option, Some, None, Result, Ok, Err}
use Rattle.std.specs.Prelude.{if◌then◌else◌}
use Rattle.std.specs.List.{list_any}
use Rattle.pos_service.specs.declared.code.Code.{Code}
use Rattle.pos_service.specs.declared.code.Code.TheVariants as code
use Rattle.pos_service.specs.Claims.{is_own, is_foreign}
use Rattle.pos_totals.specs.HardTotals.{File, Totals, files_of, with_files}
use Rattle.pos_totals.specs.TotalsFiles.{with_each}
use Rattle.pos_totals.specs.TotalsArrangements.{claimed}

-- a file that another control has claimed
abbrev pub is_foreign_claim : ℕ → File → Bool
is_foreign_claim control file = is_foreign control file.claim

-- another control has claimed the area, or a file
abbrev pub is_area_taken : Totals → ℕ → Bool
is_area_taken totals control =
    is_foreign control totals.area || list_any (is_foreign_claim control) (files_of totals.mode)

-- A claim of the area: E_TIMEOUT if another control has claimed it or a file.
abbrev pub ClaimsArea : Totals → ℕ → Result (Unit {0}) Code → Totals → Type 0
ClaimsArea old control (Ok _) new = (is_area_taken old control ≡ false) × (new ≡ record old { area = Some control })
ClaimsArea old control (Err refusal) new =
    (is_area_taken old control ≡ true) × (refusal ≡ code.Timeout) × (new ≡ old)

-- A release of the area: E_ILLEGAL if the control hasn't claimed it. Files that it has claimed stay claimed.
abbrev pub ReleasesArea : Totals → ℕ → Result (Unit {0}) Code → Totals → Type 0
ReleasesArea old control (Ok _) new = (is_own control old.area ≡ true) × (new ≡ record old { area = None })
ReleasesArea old control (Err refusal) new =
    (is_own control old.area ≡ false) × (refusal ≡ code.Illegal) × (new ≡ old)

-- a file that the control has claimed
abbrev pub is_own_claim : ℕ → File → Bool
is_own_claim control file = is_own control file.claim

-- the claim of the area without that of the control
abbrev pub foreign_area : ℕ → Option ℕ → Option ℕ
foreign_area control area = if is_own control area then None else area

-- the totals after a control was closed: what it has claimed is free again, and its transaction is dropped
abbrev pub without_control : Totals → ℕ → Totals
without_control totals control =
    let mode = with_files (with_each (is_own_claim control) (claimed None)) totals.mode in
    let area = foreign_area control totals.area in
    record totals { mode = mode; area = area; transactions = slice_set totals.transactions control None }
