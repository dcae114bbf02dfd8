use Rattle.pos_counter.proofs.Common.{ap, ◌∙◌}
use Rattle.pos_counter.proofs.HostsLemmas.{pending_changed, reported_pends, then_reported}
use Rattle.pos_drive.specs.Courses.{reported_course}
use Rattle.pos_counter.specs.Hosts.{hosts_in, pending_of, progress_with}
use Rattle.pos_counter.proofs.counter.Counter.report.Goals as goal

pub returns-clause-progress : goal.returns-clause-progress
returns-clause-progress g c =
    let hosts = hosts_in g.P.Awaits.course c.args.self.now in
    ap (λ hs. progress_with (pending_of hs)) c.act_at_pending.ensures.hosts
    ∙ ap progress_with (pending_changed (reported_course c.args.is_done) (reported_pends c.args.is_done) hosts)
    ∙ then_reported c.args.is_done (pending_of hosts)
