use Rattle.std.proofs.Common.{rules, subst, sym, List, ℕ, ◌≡◌, true}
use Rattle.pos_service.specs.Receipts.{items_from}
use Rattle.pos_escpos.specs.PrinterBytes.{all_fit, all_on_paper, items_bytes}
use Rattle.pos_escpos.specs.Printers.{PrintsOnly, press_after}
use Rattle.pos_escpos.proofs.PrinterLemmas.{prints_items}
use Rattle.pos_escpos.proofs.printer_bytes.receipt_bytes.Goals as goal

pub returns-clause-prints : goal.returns-clause-prints
returns-clause-prints c press ready =
    let line = c.args.line in
    let items = items_from c.args.marks.now c.args.characters.now in
    let sent : c.push_items.new.out.items ≡ items_bytes c.args.cut items = search rules in
    let fit : all_fit line.columns items ≡ true = search rules in
    subst (λ (bytes : List ℕ). PrintsOnly press (all_on_paper c.args.cut items) (press_after line.width press bytes))
    (sym sent) (prints_items line.width c.args.cut items line.fits fit press ready)
