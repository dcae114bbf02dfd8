use Rattle.pos_counter.proofs.Common.{IsCounterSound, ◌≡◌}
use Rattle.pos_drive.specs.Courses.{settled_course}
use Rattle.pos_counter.proofs.HostsLemmas.{changed_front}
use Rattle.pos_counter.specs.Counters.{Stays}
use Rattle.pos_counter.specs.HostTallies.{forgets}
use Rattle.pos_counter.specs.Hosts.{hosts_in, progress_in}
use Rattle.pos_counter.proofs.counter.Counter.settle.Given as goal

-- the devices before this one are settled
abbrev pub invariant-loop-place : goal.invariant-loop-place
invariant-loop-place g l = record {
  hosts : hosts_in g.P.Awaits.course l.self
      ≡ changed_front settled_course l.place (hosts_in g.P.Awaits.course l.fn.self);
  tally : l.self.tally ≡ forgets (progress_in g.P.Awaits.course l.fn.self) l.fn.self.tally;
  stays : Stays g.P.Peripheral l.fn.self l.self;
  sound : IsCounterSound g.P.Peripheral l.self;
}
