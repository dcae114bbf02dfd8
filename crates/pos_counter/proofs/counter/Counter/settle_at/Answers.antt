use Rattle.pos_counter.proofs.Common.{sym, ◌∙◌}
use Rattle.pos_counter.proofs.HostsLemmas.{same_sound, vacant_same}
use Rattle.pos_drive.specs.Courses.{settled_course}
use Rattle.pos_counter.proofs.counter.Counter.settle_at.Goals as goal

pub returns-else-is_served-clause-hosts : goal.returns-else-is_served-clause-hosts
returns-else-is_served-clause-hosts g c = sym (vacant_same g.P.Awaits.course settled_course
    c.args.self.now.devices.registry.slots.items c.args.place (sym c.is_served.ensures ∙ c.if-is_served.false))

pub returns-then-is_served-clause-sound : goal.returns-then-is_served-clause-sound
returns-then-is_served-clause-sound g c = same_sound c.settle_at.ensures.same c.requires.sound c.settle_at.ensures.sound
