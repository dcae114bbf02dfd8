use Rattle.std.proofs.Common.{◌≡◌, ◌∙◌, ℕ, List, [], ap, false, rules, subst, sym, None, Ok}
use Rattle.pos_escpos.specs.PrinterBytes.{all_on_paper, items_bytes}
use Rattle.pos_sims.specs.Additions.{Adds}
use Rattle.pos_wire.specs.Frames.{AllDo, framed_bytes}
use Rattle.pos_wire.specs.Settings.{cut_of}
use Rattle.pos_wire.proofs.OrderLemmas.{adds_misfit, adds_nothing, printer_sends}
use Rattle.pos_wire.proofs.orders.printer_bytes.Goals as goal

pub returns-in-None-clause-no_bytes : goal.returns-in-None-clause-no_bytes
returns-in-None-clause-no_bytes g c = λ is.
    let state = g.P.Peripheral.state c.args.twin.now in
    let none : c.would_add.result ≡ Ok None = search rules in
    adds_nothing c.args.chars 0 c.args.is_new state c.args.order.now (c.requires.plant 0)
    (c.would_add.ensures.nothing c.requires.fits none)

pub returns-in-Ok-clause-sends : goal.returns-in-Ok-clause-sends
returns-in-Ok-clause-sends g c =
    let state = g.P.Peripheral.state c.args.twin.now in
    let settings = c.args.settings.now in
    let roll = c.in-Some.roll in
    let cut = cut_of settings in
    let adds : Adds state.plant c.args.order.now roll = search rules in
    let given : AllDo false settings.width (all_on_paper cut roll.items) [] [] c.as_slice.result.now =
    subst (λ (bytes : List ℕ). AllDo false settings.width (all_on_paper cut roll.items) [] [] bytes)
    (sym c.as_slice.ensures.value) c.in-Ok.ensures.prints in
    let sent : c.as_slice.result.now ≡ items_bytes cut roll.items =
    c.as_slice.ensures.value ∙ c.in-Ok.ensures.bytes in
    printer_sends adds (c.in_ok-framed-in-Ok.ensures.bytes ∙ ap (framed_bytes c.args.is_new c.args.end) sent)
    (c.in_ok-framed-in-Ok.ensures.does settings.width (all_on_paper cut roll.items) [] given)

pub returns-clause-no_bytes : goal.returns-clause-no_bytes
returns-clause-no_bytes g c = λ is.
    let state = g.P.Peripheral.state c.args.twin.now in
    let adds : Adds state.plant c.args.order.now c.in-Some.roll = search rules in
    adds_misfit c.args.chars 0 c.args.is_new state (c.requires.plant 0) adds (c.in-Err.ensures.no_bytes is)
