use Rattle.pos_counter.proofs.Common.{Ok, Refused, Some, [], ap, machine, open_place, part_with, refl}
use Rattle.pos_counter.proofs.Common.{registered, sym, ◌∙◌}
use Rattle.pos_counter.proofs.HardwareLemmas.{closed_refuses, device_step, kept_in_place, served_there}
use Rattle.pos_counter.proofs.LiftLemmas.{decided_some, kept_at}
use Rattle.pos_counter.proofs.OrderLemmas.{call_given, device_orders, placeless_orders}
use Rattle.pos_counter.proofs.ServiceLemmas.{quiet_serves}
use Rattle.pos_counter.specs.Orders.{orders_in}
use Rattle.pos_service.specs.declared.code.Code.TheVariants.{Closed}
use Rattle.pos_counter.proofs.counter.Counter.call_category.Goals as goal

pub returns-in-None : goal.returns-in-None
returns-in-None g c =
    let old = c.args.self.now in
    let h = c.index.result.now in
    let found = kept_at _ _ _ c.requires.in_range c.index.ensures in
    quiet_serves g.D.Disk g.P.Peripheral old _ _ _ refl
    (λ part. placeless_orders (machine g.P.Peripheral old part) c.args.number c.args.call.now h.control
    (Ok (Refused Closed 0)) (orders_in g.P.Peripheral old.devices) found (ap open_place (sym c.in-None.ensures)))
    old.totals.totals (g.met.D.Disk.only_now _) refl refl
    (λ left. refl) c.requires.sound c.requires.sound.devices
    (λ left failures so.
    let m = machine g.P.Peripheral old (part_with old.totals.totals left failures) in
    rw found (decided_some (closed_refuses m c.args.number h.control
    c.args.call.now c.requires.own (sym c.in-None.ensures)) refl refl))

pub call_there-requires-clause-may : goal.call_there-requires-clause-may
call_there-requires-clause-may g c =
    let part = part_with c.args.self.now.totals.totals [] 0 in
    rw c.deref_mut.ensures.value (served_there c.in-Some-At.place (c.requires.sound.machine part)
    (kept_at _ _ _ c.requires.in_range c.index.ensures) (sym c.in-Some-At.ensures ∙ ap Some c.in-Some-At.field-0-is))

pub returns-in-Some-At : goal.returns-in-Some-At
returns-in-Some-At g c =
    let old = c.args.self.now in
    let kept = kept_in_place old.controls _ c.deref_mut.ensures.value c.call_there.auto.controls in
    let done = rw (← kept) at (rw c.deref_mut.ensures.value at c.call_there.ensures.done) in
    let h = c.index.result.now in
    let found = kept_at _ _ _ c.requires.in_range c.index.ensures in
    let opens = sym c.in-Some-At.ensures ∙ ap Some c.in-Some-At.field-0-is in
    quiet_serves g.D.Disk g.P.Peripheral old _ _ _ refl
    (λ part. call_given (machine g.P.Peripheral old part) c.args.number c.args.call.now c.call_there.result
    (orders_in g.P.Peripheral old.devices) _ (device_orders old.controls.items
    (registered g.P.Peripheral old.devices.registry) _ old.claims old.totals_name part c.in-Some-At.place c.args.number
    h.control c.args.call.now c.call_there.result c.requires.own found opens
    c.requires.sound.devices.registry.served (rw c.deref_mut.ensures.value at c.call_there.ensures.orders)))
    old.totals.totals (g.met.D.Disk.only_now _) refl refl (λ left. refl) c.requires.sound c.call_there.ensures.sound
    (λ left failures so. device_step _ _ _ _ _ _ (part_with old.totals.totals left failures) c.in-Some-At.place
    c.args.number h.control c.args.call.now c.call_there.result c.requires.own found opens done)
