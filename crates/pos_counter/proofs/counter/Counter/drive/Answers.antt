use Rattle.pos_counter.proofs.Common.{sym}
use Rattle.pos_counter.proofs.HostsLemmas.{absent_same}
use Rattle.pos_drive.specs.Courses.{driven_course}
use Rattle.pos_counter.specs.Hosts.{hosts_in}
use Rattle.pos_counter.proofs.counter.Counter.drive.Goals as goal

pub returns-in-None-clause-hosts : goal.returns-in-None-clause-hosts
returns-in-None-clause-hosts g c =
    sym (absent_same driven_course c.args.device.now (hosts_in g.P.Awaits.course c.args.self.now) c.in-None.ensures)
