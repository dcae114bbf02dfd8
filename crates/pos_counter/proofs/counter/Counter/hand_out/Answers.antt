use Rattle.pos_counter.proofs.Common.{ap, ◌∙◌}
use Rattle.pos_counter.proofs.HostsLemmas.{handed_out_pends, pending_changed, still_waiting, then_handed_out}
use Rattle.pos_drive.specs.Courses.{handed_out_course}
use Rattle.pos_counter.specs.Hosts.{hosts_in, pending_of, progress_with, waiting_with}
use Rattle.pos_counter.proofs.counter.Counter.hand_out.Goals as goal

pub returns-clause-waiting : goal.returns-clause-waiting
returns-clause-waiting g c =
    let hosts = hosts_in g.P.Awaits.course c.args.self.now in
    ap (λ hs. waiting_with (pending_of hs)) c.act_at_pending.ensures.hosts
    ∙ ap waiting_with (pending_changed handed_out_course handed_out_pends hosts) ∙ still_waiting (pending_of hosts)

pub returns-clause-progress : goal.returns-clause-progress
returns-clause-progress g c =
    let hosts = hosts_in g.P.Awaits.course c.args.self.now in
    ap (λ hs. progress_with (pending_of hs)) c.act_at_pending.ensures.hosts
    ∙ ap progress_with (pending_changed handed_out_course handed_out_pends hosts) ∙ then_handed_out (pending_of hosts)
