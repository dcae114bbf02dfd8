use Rattle.pos_profile.proofs.RegistryLemmas.{sound_planned}
use Rattle.pos_profile.proofs.registry.Registry.new.Goals as goal

pub returns-clause-sound : goal.returns-clause-sound
returns-clause-sound g c =
    let entries = c.args.profile.now.devices in
    sound_planned entries c.is_profile.ensures.devices c.in-Ok.ensures.planned c.fill.ensures c.in-Ok.ensures.index
