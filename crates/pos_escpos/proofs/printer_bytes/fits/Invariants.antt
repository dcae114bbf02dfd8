use Rattle.std.proofs.Common.{◌≡◌, drop}
use Rattle.pos_service.specs.Receipts.{items_from}
use Rattle.pos_escpos.specs.PrinterBytes.{all_fit}
use Rattle.pos_escpos.proofs.printer_bytes.fits.Given as goal

-- all fit if those do that are left
abbrev pub invariant-loop-mark : goal.invariant-loop-mark
invariant-loop-mark l = all_fit l.columns (items_from (drop l.mark-index l.marks) l.rest)
    ≡ all_fit l.columns (items_from l.marks l.characters)
