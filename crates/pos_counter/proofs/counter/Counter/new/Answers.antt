use Rattle.pos_counter.proofs.Common.{All-nil, HasItsDevice, IsSound, KeptControl, List, None, ap}
use Rattle.pos_counter.proofs.Common.{devices_in, length, length-replicate, machine_with, planned_of}
use Rattle.pos_counter.proofs.Common.{registered, subst, sym, ◌∙◌}
use Rattle.pos_counter.proofs.DeviceListLemmas.{count_devices, kinds_hold}
use Rattle.pos_counter.proofs.counter.Counter.new.Goals as goal

pub returns-in-Ok-new-clause-sound : goal.returns-in-Ok-new-clause-sound
returns-in-Ok-new-clause-sound g c =
    let entries = c.args.profile.now.devices in
    let devices = c.in-Ok-new.devices in
    let sound = c.in-Ok-new.ensures.sound in
    let covers = ap length c.in-Ok.ensures.claims ∙ length-replicate (length (planned_of entries)) None
    ∙ sym (count_devices entries) ∙ ap length (sym c.in-Ok-new.ensures.vacant) in
    record {
      machine = λ part. subst (λ (hs : List KeptControl). IsSound (machine_with hs c.in-Ok.claims
          (devices_in g.P.Peripheral devices) c.in-Ok.totals_name part)) (sym c.new-in-Ok-new.ensures.items) (record {
            kinds = kinds_hold (registered g.P.Peripheral devices.registry) sound.registry.kinds sound.registry.served;
            places = All-nil (HasItsDevice (devices_in g.P.Peripheral devices));
            covers = covers;
          });
      devices = sound;
    }
