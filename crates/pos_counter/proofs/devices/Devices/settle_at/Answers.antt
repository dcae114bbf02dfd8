use Rattle.pos_counter.proofs.Common.{Some, ap, ◌∙◌}
use Rattle.pos_counter.proofs.HostsLemmas.{hosts_with, same_peripheral}
use Rattle.pos_drive.specs.Courses.{settled_course}
use Rattle.pos_profile.specs.Registries.{devices, with_peripheral}
use Rattle.pos_counter.specs.KeptDevices.{devices_of}
use Rattle.pos_counter.proofs.devices.Devices.settle_at.Goals as goal

pub returns-clause-hosts : goal.returns-clause-hosts
returns-clause-hosts g c = hosts_with g.P.Awaits.course c.args.self.now.registry.slots c.args.place settled_course
    c.serving-peripheral.ensures.is c.settle_with.ensures.course

pub returns-clause-same : goal.returns-clause-same
returns-clause-same g c =
    let old = devices g.P.Peripheral c.args.self.now.registry in
    ap devices_of (c.serving-peripheral.ensures.devices c.settle_with.new.peripheral ∙ ap
    (λ s. with_peripheral old c.args.place (Some s)) c.settle_with.ensures.state ∙ same_peripheral old c.args.place
    c.serving-peripheral.ensures.value)
