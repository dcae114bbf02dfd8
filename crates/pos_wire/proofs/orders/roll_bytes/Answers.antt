use Rattle.std.proofs.Common.{ℕ, List, [], false, subst}
use Rattle.pos_escpos.specs.declared.settings.CutSettings.{CutSettings}
use Rattle.pos_escpos.specs.PrinterBytes.{all_on_paper}
use Rattle.pos_service.specs.Receipts.{Item, items_from}
use Rattle.pos_wire.specs.Frames.{AllDo}
use Rattle.pos_wire.specs.Settings.{cut_of}
use Rattle.pos_wire.proofs.OrderLemmas.{prints_alone}
use Rattle.pos_wire.proofs.orders.roll_bytes.Goals as goal

pub returns-in-Ok-clause-prints : goal.returns-in-Ok-clause-prints
returns-in-Ok-clause-prints c =
    let settings = c.args.settings.now in
    let cut = cut_of settings in
    let made = items_from c.printed.result.0.now c.printed.result.1.now in
    let sent = c.in-Ok.sent.items in
    let raw : AllDo false c.line-line.result.width (all_on_paper c.cut-cut.result made) [] [] sent =
    prints_alone c.line-line.result.width sent c.in-Ok.ensures.prints in
    let by_cut : AllDo false c.line-line.result.width (all_on_paper cut made) [] [] sent =
    subst (λ (is : CutSettings). AllDo false c.line-line.result.width (all_on_paper is made) [] [] sent)
    c.cut-cut.ensures raw in
    let by_width : AllDo false settings.width (all_on_paper cut made) [] [] sent =
    subst (λ (width : ℕ). AllDo false width (all_on_paper cut made) [] [] sent) c.line-line.ensures.0 by_cut in
    subst (λ (items : List Item). AllDo false settings.width (all_on_paper cut items) [] [] sent)
    c.printed.ensures.items by_width
