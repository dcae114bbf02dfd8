use Rattle.pos_counter.proofs.Common.{◌∙◌}
use Rattle.pos_counter.proofs.HostsLemmas.{hosts_with}
use Rattle.pos_counter.proofs.PaperLemmas.{same_at, torn_there}
use Rattle.pos_profile.specs.Registries.{devices}
use Rattle.pos_counter.specs.Hosts.{hosts_of}
use Rattle.pos_counter.proofs.devices.Devices.tear_off.Goals as goal

pub returns-clause-done : goal.returns-clause-done
returns-clause-done g c helds =
    let state = g.P.Peripheral.state in
    torn_there (devices g.P.Peripheral c.args.self.now.registry) c.args.place (state c.tear_with.new.peripheral)
    c.tear_with.result c.requires.sound.registry.served c.serving-peripheral.ensures.value
    (c.serving-peripheral.ensures.devices c.tear_with.new.peripheral) c.tear_with.ensures.torn helds

pub returns-clause-hosts : goal.returns-clause-hosts
returns-clause-hosts g c = hosts_with g.P.Awaits.course c.args.self.now.registry.slots c.args.place
    (λ one. one) c.serving-peripheral.ensures.is c.tear_with.ensures.course
    ∙ same_at (hosts_of g.P.Awaits.course c.args.self.now.registry.slots.items) c.args.place
