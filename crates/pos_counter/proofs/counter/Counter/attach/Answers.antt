use Rattle.pos_counter.proofs.Common.{refl, registered}
use Rattle.pos_counter.proofs.DeviceListLemmas.{attach_step}
use Rattle.pos_counter.proofs.OrderLemmas.{attach_orders}
use Rattle.pos_counter.proofs.ServiceLemmas.{steps_beside}
use Rattle.pos_counter.proofs.counter.Counter.attach.Goals as goal

pub returns : goal.returns
returns g c =
    let old = c.args.self.now in
    let both = steps_beside c.requires.sound (record { registry = c.attach.ensures.sound }) refl refl
    (λ part. attach_orders old.controls.items (registered g.P.Peripheral old.devices.registry)
    (registered g.P.Peripheral c.attach.new.self) c.args.name.now old.claims old.totals_name part g.P.Peripheral.state
    c.args.peripheral c.attach.result c.attach.ensures.attaches)
    (λ part. attach_step old.controls.items (registered g.P.Peripheral old.devices.registry)
    (registered g.P.Peripheral c.attach.new.self) c.args.name.now old.claims old.totals_name part g.P.Peripheral.state
    c.args.peripheral c.attach.result c.attach.ensures.handed_back c.attach.ensures.attaches) in
    record {
      step = both.step;
      puts = c.attach.ensures.puts;
      handed_back = c.attach.ensures.handed_back;
      sound = both.sound;
    }
