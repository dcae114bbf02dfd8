use Rattle.pos_counter.proofs.Common.{None, Some, arith, slice_get, sym, ◌∙◌, ◌≡◌}
use Rattle.pos_counter.proofs.HostsLemmas.{none_pends, slot_pends}
use Rattle.pos_counter.proofs.devices.Devices.is_pending.Goals as goal

pub returns-in-Some : goal.returns-in-Some
returns-in-Some g c =
    let slots = c.args.self.now.registry.slots.items in
    let at : slice_get slots c.args.place ≡ Some c.in-Some.slot.now = grind (arith, c.slot.ensures, c.in-Some.is) in
    c.is_pending.ensures ∙ sym (slot_pends g.P.Awaits.course slots c.args.place at)

pub returns-in-None : goal.returns-in-None
returns-in-None g c =
    let slots = c.args.self.now.registry.slots.items in
    let at : slice_get slots c.args.place ≡ None = grind (arith, c.slot.ensures, c.in-None.is) in
    sym (none_pends g.P.Awaits.course slots c.args.place at)
