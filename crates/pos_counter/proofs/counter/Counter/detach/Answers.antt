use Rattle.pos_counter.proofs.Common.{KeptControl, arith, has_open, refl, registered, rules, sym, ◌∙◌}
use Rattle.pos_profile.proofs.ListLemmas.{any_mapped}
use Rattle.std.proofs.lemmas.Grind.{common_steps}
use Rattle.pos_counter.proofs.DeviceListLemmas.{detach_step}
use Rattle.pos_counter.proofs.OrderLemmas.{detach_orders}
use Rattle.pos_counter.proofs.ServiceLemmas.{steps_beside}
use Rattle.pos_counter.proofs.counter.Counter.detach.Goals as goal

pub returns : goal.returns
returns g c =
    let old = c.args.self.now in
    let both = steps_beside c.requires.sound (record { registry = c.detach.ensures.sound }) refl refl
    (λ part. detach_orders old.controls.items (registered g.P.Peripheral old.devices.registry)
    (registered g.P.Peripheral c.detach.new.self) c.args.name.now old.claims old.totals_name part g.P.Peripheral.state
    c.is_open-is_open.result c.detach.result c.detach.ensures.detaches)
    (λ part. detach_step old.controls.items (registered g.P.Peripheral old.devices.registry)
    (registered g.P.Peripheral c.detach.new.self) c.args.name.now old.claims old.totals_name part g.P.Peripheral.state
    c.is_open-is_open.result c.detach.result
    (λ place is. (rw c.deref.ensures.value at c.is_open-is_open.ensures) place is ∙ sym (any_mapped (has_open place)
    (λ (kept : KeptControl). kept.control) old.controls.items)) c.detach.ensures.detaches)
    in
    record { step = both.step; parked = first_of (search rules, grind (arith, common_steps)); sound = both.sound }
