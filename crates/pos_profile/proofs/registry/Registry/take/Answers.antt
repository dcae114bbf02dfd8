use Rattle.pos_profile.proofs.Common.{Device, None, refl}
use Rattle.pos_profile.proofs.RegistryLemmas.{devices_set, sound_with}
use Rattle.pos_profile.proofs.registry.Registry.take.Goals as goal

pub returns-clause-vacated : goal.returns-clause-vacated
returns-clause-vacated g c =
    let slot = c.index_mut.result.now in
    rw c.take.ensures.after
    (devices_set g.P.Peripheral c.args.self.now.slots.items c.args.place slot None c.index_mut.ensures.value)

pub returns-clause-sound : goal.returns-clause-sound
returns-clause-sound g c =
    sound_with c.args.place None c.requires.sound refl (returns-clause-vacated g c) (λ (d : Device) at. tt)
