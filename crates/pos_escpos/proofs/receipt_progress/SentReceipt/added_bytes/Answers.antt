use Rattle.std.proofs.Common.{ap, subst, sym, ◌++◌, ◌≡◌, ◌∙◌, List, true, false, Err}
use Rattle.pos_service.specs.Receipts.{Item}
use Rattle.pos_escpos.specs.declared.bytes_fault.BytesFault.TheVariants as fault
use Rattle.pos_escpos.specs.PrinterBytes.{all_fit, all_on_paper}
use Rattle.pos_escpos.specs.Printers.{PrintsOnly, press_after}
use Rattle.pos_escpos.specs.ReceiptProgress.{IsSent}
use Rattle.pos_escpos.proofs.receipt_progress.SentReceipt.added_bytes.Goals as goal

pub returns-in-Ok-clause-prints : goal.returns-in-Ok-clause-prints
returns-in-Ok-clause-prints c added h press ready = subst (λ (items : List Item). PrintsOnly press
    (all_on_paper c.args.cut items) (press_after c.args.line.width press c.in-Ok.bytes.items))
    (c.unsent.ensures.items added h) (c.in-Ok.ensures.prints press ready)

pub returns-in-Ok-clause-sent : goal.returns-in-Ok-clause-sent
returns-in-Ok-clause-sent c added h = subst (λ (items : List Item). IsSent items c.and.result)
    (ap (λ items. h.before ++ items) (c.unsent.ensures.items added h) ∙ sym h.all)
    (c.and.ensures h.before h.counted (c.unsent.ensures.marks added h) (c.unsent.ensures.characters added h))

pub returns-in-Ok-clause-fit : goal.returns-in-Ok-clause-fit
returns-in-Ok-clause-fit c added h = subst (λ (items : List Item). all_fit c.args.line.columns items ≡ true)
    (c.unsent.ensures.items added h) c.in-Ok.ensures.fit

pub returns-in-Err-clause-misfit : goal.returns-in-Err-clause-misfit
returns-in-Err-clause-misfit c added h misfit =
    let same : c.in-Err.fault ≡ fault.Misfit = cc in
    subst (λ (items : List Item). all_fit c.args.line.columns items ≡ false) (c.unsent.ensures.items added h)
    (c.in-Err.ensures.misfit (ap Err same))
