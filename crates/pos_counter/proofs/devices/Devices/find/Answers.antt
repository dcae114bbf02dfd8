use Rattle.pos_counter.proofs.Common.{sym, ◌∙◌}
use Rattle.pos_counter.proofs.DeviceListLemmas.{found_same}
use Rattle.pos_profile.specs.Registries.{devices}
use Rattle.pos_counter.proofs.devices.Devices.find.Goals as goal

pub returns : goal.returns
returns g c = c.find.ensures ∙ sym (found_same c.args.name.now (devices g.P.Peripheral c.args.self.now.registry))
