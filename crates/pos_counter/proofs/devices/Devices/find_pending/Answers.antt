use Rattle.pos_counter.proofs.Common.{arith, length-map, sym, ◌∙◌}
use Rattle.pos_counter.proofs.HostsLemmas.{none_all}
use Rattle.pos_profile.specs.Registries.{device_of}
use Rattle.pos_counter.proofs.devices.Devices.find_pending.Goals as goal

pub returns-then-is_pending : goal.returns-then-is_pending
returns-then-is_pending g c = record {
  pends = sym c.is_pending.ensures ∙ c.if-is_pending.true;
  none_before = c.loop-place.invariant;
}

pub returns : goal.returns
returns g c =
    let slots = c.args.self.now.registry.slots.items in
    none_all g.P.Awaits.course slots c.loop-place.invariant (omega (
      arith,
      c.loop-place-test.false,
      c.count-place-end.ensures,
      length-map slots (λ s. device_of g.P.Peripheral s),
    ))
