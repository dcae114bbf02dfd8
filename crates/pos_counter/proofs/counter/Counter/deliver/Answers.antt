use Rattle.pos_counter.proofs.Common.{◌<◌, arith, devices_in, length, refl}
use Rattle.pos_counter.proofs.LiftLemmas.{kept_at, set_machine}
use Rattle.pos_counter.proofs.ServiceLemmas.{steps_beside}
use Rattle.pos_counter.proofs.counter.Counter.deliver.Goals as goal

pub returns : goal.returns
returns g c =
    let old = c.args.self.now in
    let hs = old.controls.items in
    let h = c.index_mut.result.now in
    let within : c.args.number < length hs = omega (arith, old.controls.ok.0) in
    steps_beside c.requires.sound c.requires.sound.devices refl refl (λ part. refl)
    (λ part. rw (kept_at hs c.args.number h within c.index_mut.ensures.value) (
      c.deliver.ensures.event,
      set_machine hs old.claims (devices_in g.P.Peripheral old.devices) old.totals_name part c.args.number
          c.deliver.new.self c.deliver.ensures.rest,
    ))
