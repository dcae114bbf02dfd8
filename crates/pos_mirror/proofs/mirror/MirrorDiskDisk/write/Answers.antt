use Rattle.pos_disk.proofs.Common.{Err, Ok, ap, false, refl, rules, true, ◌≡◌}
use Rattle.pos_disk.specs.Fuse.{counted}
use Rattle.pos_mirror.proofs.CallLemmas.{fails_under, fault_is, spoils_of, writes_under}
use Rattle.pos_mirror.proofs.StepLemmas.{lost_write, reread_on, written_on}
use Rattle.pos_mirror.specs.Mirror.{mirror_of}
use Rattle.pos_mirror.proofs.mirror.MirrorDiskDisk.write.Goals as goal

pub invariant_of-self : goal.invariant_of-self
invariant_of-self g c =
    rw (c.if-self.true, c.count.ensures) (lost_write g.D.Disk g.met.D.Disk.whole (rw c.if-self.true at c.self.invariant)
    (rw (← c.self.view_is) at c.requires) c.write.ensures.memory c.write.ensures.writes).0

pub returns-then-self-clause-writes : goal.returns-then-self-clause-writes
returns-then-self-clause-writes g c = λ honest. rw (← c.self.view_is, c.count.ensures)
    (fails_under c.self.inside.failures c.self.invariant.last record {} (spoils_of c.write.ensures.writes))

pub returns-then-self-clause-own : goal.returns-then-self-clause-own
returns-then-self-clause-own g c =
    let old = c.self.inside in
    let goes = lost_write g.D.Disk g.met.D.Disk.whole (rw c.if-self.true at c.self.invariant)
    (rw (← c.self.view_is) at c.requires) c.write.ensures.memory c.write.ensures.writes in
    rw (← c.self.view_is, c.if-self.true, c.count.ensures) record {
      lost = λ lost. (refl, ap (λ m. mirror_of m old.below (counted old.failures) true) c.write.ensures.memory);
      done = tt;
      failed = λ present. absurd (cc);
      follows = goes.1;
    }

pub invariant_of-self-then-is_ok : goal.invariant_of-self-then-is_ok
invariant_of-self-then-is_ok g c =
    let done : c.write-2.result ≡ Ok tt = search rules in
    rw c.if-self.false (written_on g.D.Disk g.met.D.Disk.whole (rw c.if-self.false at c.self.invariant)
    c.write-2.ensures.size c.write-2.ensures.honest done refl (rw (← c.self.view_is) at c.requires)
    c.write-2.ensures.writes c.write-2.ensures.own c.write-then-is_ok.ensures.memory
    c.write-then-is_ok.ensures.writes).0

pub returns-then-is_ok-clause-writes : goal.returns-then-is_ok-clause-writes
returns-then-is_ok-clause-writes g c = λ honest. rw (← c.self.view_is)
    (writes_under c.self.inside.failures c.self.invariant.last refl c.write-then-is_ok.ensures.writes)

pub returns-then-is_ok-clause-own : goal.returns-then-is_ok-clause-own
returns-then-is_ok-clause-own g c =
    let done : c.write-2.result ≡ Ok tt = search rules in
    let goes = written_on g.D.Disk g.met.D.Disk.whole (rw c.if-self.false at c.self.invariant) c.write-2.ensures.size
    c.write-2.ensures.honest done refl (rw (← c.self.view_is) at c.requires) c.write-2.ensures.writes
    c.write-2.ensures.own c.write-then-is_ok.ensures.memory c.write-then-is_ok.ensures.writes in
    rw (← c.self.view_is, c.if-self.false) record {
      lost = λ lost. absurd (cc);
      done = (
        rw done at c.write-2.ensures.own,
        ap (λ m. mirror_of m c.write-2.new.self c.self.inside.failures false) c.write-then-is_ok.ensures.memory,
      );
      failed = tt;
      follows = goes.1;
    }

pub invariant_of-self-2 : goal.invariant_of-self-2
invariant_of-self-2 g c =
    let again = c.reread-again.ensures in
    let failed : c.write-2.result ≡ Err record {} = search rules in
    rw (c.count-2.ensures, c.is_err-self-inside.ensures.value, fault_is c.reread-again.result)
    (reread_on g.D.Disk g.met.D.Disk.whole (rw c.if-self.false at c.self.invariant)
    (rw (← c.self.view_is) at c.requires) again.spoils failed c.write-2.ensures.size again.size c.write-2.ensures.honest
    again.honest c.write-2.ensures.writes c.write-2.ensures.own again.rereads).0

pub returns-clause-writes : goal.returns-clause-writes
returns-clause-writes g c = λ honest. rw (← c.self.view_is, c.count-2.ensures)
    (fails_under c.self.inside.failures c.self.invariant.last record {} c.reread-again.ensures.spoils)

pub returns-clause-own : goal.returns-clause-own
returns-clause-own g c =
    let again = c.reread-again.ensures in
    let failed : c.write-2.result ≡ Err record {} = search rules in
    let goes = reread_on g.D.Disk g.met.D.Disk.whole (rw c.if-self.false at c.self.invariant)
    (rw (← c.self.view_is) at c.requires) again.spoils failed c.write-2.ensures.size again.size c.write-2.ensures.honest
    again.honest c.write-2.ensures.writes c.write-2.ensures.own again.rereads in
    rw (
      ← c.self.view_is,
      c.if-self.false,
      c.count-2.ensures,
      c.is_err-self-inside.ensures.value,
      fault_is c.reread-again.result,
    ) record {
      lost = λ lost. absurd (cc);
      done = tt;
      failed = λ present. record {
        mid = c.write-2.new.self;
        asked = rw failed at c.write-2.ensures.own;
        again = c.reread-again.result;
        rereads = again.rereads;
        counts = refl;
        losing = refl;
      };
      follows = goes.1;
    }
