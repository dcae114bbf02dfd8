-- Rows that several tables of Hard Totals have (chapter Hard Totals).
use Rattle.std.specs.Prelude.{ℕ, Bool, true, List, [], ◌∷◌}
use Rattle.pos_service.specs.declared.code.Code.TheVariants as code
use Rattle.pos_service.specs.Claims.{is_foreign}
use Rattle.pos_service.specs.Codes.{etot_noroom}
use Rattle.pos_service.specs.Refusals.{Row, when}
use Rattle.pos_totals.specs.HardTotals.{File, Mode, Off, Ready, Totals}

-- E_EXTENDED ETOT_NOROOM
abbrev pub when_no_room : Bool → Row
when_no_room applies = record { applies = applies; code = code.Extended; extended = etot_noroom }

-- E_FAILURE while the totals are off; while they are ready a table of the files
abbrev pub while_ready : Mode → (List File → List Row) → List Row
while_ready Off rows = when true code.Failure ∷ []
while_ready (Ready files sequence) rows = rows files

-- E_CLAIMED if another control has claimed the area
abbrev pub when_foreign_area : Totals → ℕ → Row
when_foreign_area totals control = when (is_foreign control totals.area) code.Claimed
