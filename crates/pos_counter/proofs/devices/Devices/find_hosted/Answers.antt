use Rattle.pos_counter.proofs.Common.{sym, ◌∙◌}
use Rattle.pos_counter.proofs.HostsLemmas.{named_there, no_course, some_course, unnamed_from}
use Rattle.pos_counter.proofs.devices.Devices.find_hosted.Goals as goal

pub returns-in_err-place : goal.returns-in_err-place
returns-in_err-place g c = rw c.from_residual.ensures (unnamed_from g.P.Peripheral g.P.Awaits.course
    c.args.self.now.registry.slots.items 0 c.args.name.now (sym c.find.ensures ∙ c.in_err-place.was))

pub returns-then-is_served : goal.returns-then-is_served
returns-then-is_served g c =
    let (named, course) = named_there g.P.Peripheral g.P.Awaits.course c.args.self.now.registry.slots.items
    c.args.name.now (sym c.find.ensures ∙ c.in_ok-place.was) in
    (named, rw course (some_course g.P.Awaits.course _ ∙ sym c.if-is_served.ensures), sym c.if-is_served.ensures)

pub returns-else-is_served : goal.returns-else-is_served
returns-else-is_served g c =
    let (named, course) = named_there g.P.Peripheral g.P.Awaits.course c.args.self.now.registry.slots.items
    c.args.name.now (sym c.find.ensures ∙ c.in_ok-place.was) in
    course ∙ no_course g.P.Awaits.course _ (sym c.is_served.ensures ∙ c.if-is_served.false)
