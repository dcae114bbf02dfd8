use Rattle.std.proofs.Common.{◌≡◌, ◌++◌, drop}
use Rattle.pos_service.specs.Receipts.{items_from}
use Rattle.pos_escpos.specs.PrinterBytes.{items_bytes}
use Rattle.pos_escpos.proofs.printer_bytes.push_items.Given as goal

-- what is written and what is left are the whole
abbrev pub invariant-loop-mark : goal.invariant-loop-mark
invariant-loop-mark l = l.out.items ++ items_bytes l.cut (items_from (drop l.mark-index l.marks) l.rest)
    ≡ l.fn.out.items ++ items_bytes l.cut (items_from l.marks l.characters)
