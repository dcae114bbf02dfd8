use Rattle.pos_counter.proofs.Common.{Some, ap, sym, ◌∙◌}
use Rattle.pos_counter.proofs.HostsLemmas.{first_found, has_peripheral, is_there, none_found}
use Rattle.pos_counter.proofs.ServedLemmas.{first_pending, none_pending}
use Rattle.pos_counter.specs.Hosts.{hosts_of}
use Rattle.pos_counter.proofs.devices.Devices.pending.Goals as goal

pub returns-in_err-place-clause-hosts : goal.returns-in_err-place-clause-hosts
returns-in_err-place-clause-hosts g c = rw c.from_residual.ensures
    (sym (none_found (hosts_of g.P.Awaits.course c.args.self.now.registry.slots.items) c.in_err-place.ensures))

pub returns-in_err-place-clause-peripheral : goal.returns-in_err-place-clause-peripheral
returns-in_err-place-clause-peripheral g c = rw c.from_residual.ensures
    (sym (none_pending g.P.Awaits.course c.args.self.now.registry.slots.items c.in_err-place.ensures))

pub returns-in_err-slot : goal.returns-in_err-slot
returns-in_err-slot g c = absurd (is_there g.P.Awaits.course c.args.self.now.registry.slots.items c.in_ok-place.place
    c.in_ok-place.ensures (sym c.in_err-slot.ensures))

pub returns-in_err-peripheral : goal.returns-in_err-peripheral
returns-in_err-peripheral g c =
    absurd (has_peripheral g.P.Awaits.course c.args.self.now.registry.slots.items c.in_ok-place.place
    c.in_ok-place.ensures c.in_ok-slot.slot.now (sym c.in_ok-slot.ensures) (sym c.in_err-peripheral.ensures.value))

pub returns-clause-hosts : goal.returns-clause-hosts
returns-clause-hosts g c =
    let slots = c.args.self.now.registry.slots.items in
    ap (λ name. Some (name, g.P.Awaits.course c.in_ok-peripheral.peripheral.now)) c.as_slice.ensures
    ∙ sym (first_found g.P.Awaits.course slots c.in_ok-place.place c.in_ok-place.ensures
    (sym c.in_ok-slot.ensures) (sym c.in_ok-peripheral.ensures.value))

pub returns-clause-peripheral : goal.returns-clause-peripheral
returns-clause-peripheral g c =
    let slots = c.args.self.now.registry.slots.items in
    ap (λ name. Some (name, c.in_ok-peripheral.peripheral.now)) c.as_slice.ensures
    ∙ sym (first_pending g.P.Awaits.course slots c.in_ok-place.place c.in_ok-place.ensures
    (sym c.in_ok-slot.ensures) (sym c.in_ok-peripheral.ensures.value))
