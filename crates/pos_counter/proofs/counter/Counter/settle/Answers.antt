use Rattle.pos_counter.proofs.Common.{ap, arith, length-map, ◌+◌, ◌∙◌, suc, ◌≡◌}
use Rattle.pos_counter.proofs.HostsLemmas.{changed_front, front_all, front_more, settled_none}
use Rattle.pos_drive.specs.Courses.{settled_course}
use Rattle.pos_profile.specs.Registries.{device_of}
use Rattle.pos_counter.specs.Hosts.{changed_at, host_of, hosts_in, pending_of, progress_with}
use Rattle.pos_counter.proofs.counter.Counter.settle.Goals as goal

pub loop-place-preserved : goal.loop-place-preserved
loop-place-preserved g c =
    let hosts = hosts_in g.P.Awaits.course c.args.self.now in
    let place = c.loop-place.place in
    let one_more : suc place ≡ place + 1 = omega arith in
    record {
      hosts = c.settle_at.ensures.hosts ∙ ap (changed_at settled_course place) c.loop-place.invariant.hosts
          ∙ front_more settled_course place hosts ∙ ap (λ n. changed_front settled_course n hosts) one_more;
      tally = c.settle_at.ensures.tally ∙ c.loop-place.invariant.tally;
      stays = record {
        machine = λ part. c.settle_at.ensures.stays.machine part ∙ c.loop-place.invariant.stays.machine part;
        totals = c.settle_at.ensures.stays.totals ∙ c.loop-place.invariant.stays.totals;
      };
      sound = c.settle_at.ensures.sound;
    }

pub returns-clause-hosts : goal.returns-clause-hosts
returns-clause-hosts g c =
    let slots = c.args.self.now.devices.registry.slots.items in
    let hosts = hosts_in g.P.Awaits.course c.args.self.now in
    c.loop-place.invariant.hosts ∙ front_all settled_course c.loop-place.place hosts (omega (
      arith,
      c.loop-place-test.false,
      c.count-place-end.ensures,
      length-map slots (λ s. device_of g.P.Peripheral s),
      length-map slots (λ s. host_of g.P.Awaits.course s),
    ))

pub returns-clause-progress : goal.returns-clause-progress
returns-clause-progress g c =
    let slots = c.args.self.now.devices.registry.slots.items in
    let hosts = hosts_in g.P.Awaits.course c.args.self.now in
    ap (λ hs. progress_with (pending_of hs)) (c.loop-place.invariant.hosts ∙ front_all settled_course c.loop-place.place
    hosts (omega (
      arith,
      c.loop-place-test.false,
      c.count-place-end.ensures,
      length-map slots (λ s. device_of g.P.Peripheral s),
      length-map slots (λ s. host_of g.P.Awaits.course s),
    ))) ∙ ap progress_with (settled_none hosts)
