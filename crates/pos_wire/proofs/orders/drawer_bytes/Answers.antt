use Rattle.std.proofs.Common.{◌≡◌, ◌∙◌, ◌∷◌, ℕ, [], ap, false, rules, subst}
use Rattle.pos_escpos.specs.declared.settings.DrawerKick.{DrawerKick}
use Rattle.pos_escpos.specs.PrinterCommands.{kick_command, kick_pulse}
use Rattle.pos_service.specs.Peripherals.{IsOn}
use Rattle.pos_wire.specs.Frames.{AllDo, framed_bytes}
use Rattle.pos_wire.specs.Settings.{kick_of}
use Rattle.pos_wire.proofs.OrderLemmas.{drawer_sends, kicks_alone}
use Rattle.pos_wire.proofs.orders.drawer_bytes.Goals as goal

pub returns-clause-sends : goal.returns-clause-sends
returns-clause-sends g c =
    let state = g.P.Peripheral.state c.args.twin.now in
    let is_on : IsOn state.plant = search rules in
    let alone : (width : ℕ)
    → AllDo false width [] (kick_pulse (kick_of c.args.settings.now) ∷ []) [] c.bytes-pulse.result =
    λ width. subst (λ (kick : DrawerKick). AllDo false width [] (kick_pulse kick ∷ []) [] c.bytes-pulse.result)
    c.kick.ensures (kicks_alone width c.kick.result c.bytes-pulse.result (c.bytes-pulse.ensures.kicks width)) in
    let kick : c.bytes-pulse.result ≡ kick_command (kick_of c.args.settings.now) =
    c.bytes-pulse.ensures.bytes ∙ ap kick_command c.kick.ensures in
    drawer_sends is_on c.requires.plant c.requires.fits
    (c.in_ok-framed.ensures.bytes ∙ ap (framed_bytes c.args.is_new c.args.end) kick)
    (λ width. c.in_ok-framed.ensures.does width [] _ (alone width))
