use Rattle.pos_disk.proofs.Common.{Err, Ok, ap, false, refl, rules, ◌≡◌}
use Rattle.pos_mirror.proofs.CallLemmas.{syncs_under}
use Rattle.pos_mirror.proofs.StepLemmas.{settled_on, unsettled_on}
use Rattle.pos_mirror.specs.Mirror.{mirror_of}
use Rattle.pos_mirror.proofs.mirror.MirrorDiskDisk.sync.Goals as goal

pub invariant_of-self-then-is_err : goal.invariant_of-self-then-is_err
invariant_of-self-then-is_err g c =
    let failed : c.sync.result ≡ Err record {} = search rules in
    rw c.count-then-is_err.ensures (unsettled_on g.D.Disk g.met.D.Disk.whole (rw c.if-self.false at c.self.invariant)
    c.sync.ensures.size c.sync.ensures.honest failed c.sync.ensures.syncs c.sync.ensures.own).0

pub invariant_of-self-2 : goal.invariant_of-self-2
invariant_of-self-2 g c =
    let done : c.sync.result ≡ Ok tt = search rules in
    rw c.if-self.false (settled_on g.D.Disk g.met.D.Disk.whole
    (rw c.if-self.false at c.self.invariant) c.sync.ensures.size c.sync.ensures.honest
    done c.sync.ensures.syncs c.sync.ensures.own c.sync-2.ensures.memory c.sync-2.ensures.syncs).0

pub returns-clause-syncs : goal.returns-clause-syncs
returns-clause-syncs g c = λ honest. rw (← c.self.view_is)
    (syncs_under c.self.inside.failures c.self.invariant.last refl c.sync-2.ensures.syncs)

pub returns-clause-own : goal.returns-clause-own
returns-clause-own g c =
    let done : c.sync.result ≡ Ok tt = search rules in
    rw (← c.self.view_is, c.if-self.false) record {
      lost = λ lost. absurd (cc);
      asked = λ present. (
        rw done at c.sync.ensures.own,
        ap (λ m. mirror_of m c.sync.new.self c.self.inside.failures false) c.sync-2.ensures.memory,
      );
      follows = (settled_on g.D.Disk g.met.D.Disk.whole
          (rw c.if-self.false at c.self.invariant) c.sync.ensures.size c.sync.ensures.honest done c.sync.ensures.syncs
          c.sync.ensures.own c.sync-2.ensures.memory c.sync-2.ensures.syncs).1;
    }
