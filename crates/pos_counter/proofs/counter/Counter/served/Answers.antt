use Rattle.pos_counter.proofs.Common.{sym, ◌∙◌}
use Rattle.pos_counter.proofs.ServedLemmas.{filled_there, served_at, unserved_from, vacant_there}
use Rattle.pos_counter.proofs.counter.Counter.served.Goals as goal

pub returns-in_err-place : goal.returns-in_err-place
returns-in_err-place g c =
    let slots = c.args.self.now.devices.registry.slots.items in
    rw c.from_residual.ensures (sym
    (unserved_from g.P.Peripheral slots 0 c.args.device.now (sym c.find.ensures ∙ c.in_err-place.was)))

pub returns-in_err-slot : goal.returns-in_err-slot
returns-in_err-slot g c =
    let slots = c.args.self.now.devices.registry.slots.items in
    let place = c.in_ok-place.place in
    rw c.from_residual-in_err-slot.ensures (sym (served_at g.P.Peripheral slots place c.args.device.now
    (sym c.find.ensures ∙ c.in_ok-place.was) ∙ vacant_there slots place (sym c.in_err-slot.ensures)))

pub returns : goal.returns
returns g c =
    let slots = c.args.self.now.devices.registry.slots.items in
    let place = c.in_ok-place.place in
    c.as_ref.ensures.value ∙ sym (served_at g.P.Peripheral slots place c.args.device.now
    (sym c.find.ensures ∙ c.in_ok-place.was) ∙ filled_there slots place (sym c.in_ok-slot.ensures))
