use Rattle.pos_disk.proofs.Common.{Err, Ok, arith, common_steps, fresh, length, refl, replicate, rules, ◌≡◌}
use Rattle.std.proofs.Common.{min}
use Rattle.pos_mirror.proofs.StepLemmas.{opened}
use Rattle.pos_mirror.proofs.mirror.MirrorDisk.over.Goals as goal

pub returns-then-is_err-2-clause-opens : goal.returns-then-is_err-2-clause-opens
returns-then-is_err-2-clause-opens g c =
    let synced : c.sync.result ≡ Ok tt = search rules in
    let failed : c.read.result ≡ Err record {} = search rules in
    let before : c.deref_mut.result.now ≡ replicate (min (g.D.Disk.size c.args.below) c.args.most) 0 =
    grind (arith, common_steps) in (
      c.read.new.out,
      record {
        mid = c.sync.new.self;
        synced = rw synced at c.sync.ensures.own;
        read = rw (before, failed) at c.read.ensures.own;
      },
    )

pub invariant_of-result : goal.invariant_of-result
invariant_of-result g c =
    let D = g.D.Disk in
    let synced : c.sync.result ≡ Ok tt = search rules in
    let read : c.read.result ≡ Ok tt = search rules in
    let long : length c.read.new.out ≡ min (D.size c.args.below) c.args.most = grind (arith, common_steps) in
    let has : c.new.result ≡ fresh c.read.new.out = grind (arith, common_steps) in
    rw has (opened D g.met.D.Disk.whole g.met.D.Disk.only_now c.args.below c.sync.new.self c.read.new.self
    c.deref_mut.result.now c.read.new.out c.sync.result c.read.result synced read c.sync.ensures.honest
    c.read.ensures.honest c.sync.ensures.syncs c.read.ensures.reads c.read.ensures.own
    (omega (arith, long, c.sync.ensures.size)) c.read.ensures.size)

pub returns-clause-opens : goal.returns-clause-opens
returns-clause-opens g c =
    let D = g.D.Disk in
    let synced : c.sync.result ≡ Ok tt = search rules in
    let read : c.read.result ≡ Ok tt = search rules in
    let before : c.deref_mut.result.now ≡ replicate (min (D.size c.args.below) c.args.most) 0 =
    grind (arith, common_steps) in
    let long : length c.read.new.out ≡ min (D.size c.args.below) c.args.most = grind (arith, common_steps) in
    let has : c.new.result ≡ fresh c.read.new.out = grind (arith, common_steps) in
    rw has (
      record {
        mid = c.sync.new.self;
        synced = rw synced at c.sync.ensures.own;
        read = rw (before, read) at c.read.ensures.own;
      },
      long,
      refl,
    )
