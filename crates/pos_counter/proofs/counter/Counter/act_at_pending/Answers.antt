use Rattle.pos_counter.proofs.Common.{sym, ◌∙◌}
use Rattle.pos_counter.proofs.HostsLemmas.{first_changed, none_changed, pending_served}
use Rattle.pos_counter.specs.Hosts.{course_after, hosts_in}
use Rattle.pos_counter.proofs.counter.Counter.act_at_pending.Goals as goal

pub act_at-requires-clause-served : goal.act_at-requires-clause-served
act_at-requires-clause-served g c = pending_served g.P.Awaits.course c.args.self.now.devices.registry.slots.items
    c.in-Some.place c.in-Some.ensures.pends

pub returns-in-Some-clause-hosts : goal.returns-in-Some-clause-hosts
returns-in-Some-clause-hosts g c = c.act_at.ensures.hosts ∙ sym (first_changed (course_after c.args.act)
    (hosts_in g.P.Awaits.course c.args.self.now) c.in-Some.place c.in-Some.ensures)

pub returns-in_default-clause-hosts : goal.returns-in_default-clause-hosts
returns-in_default-clause-hosts g c =
    sym (none_changed (course_after c.args.act) (hosts_in g.P.Awaits.course c.args.self.now) c.in_default.ensures)
