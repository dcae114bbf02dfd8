use Rattle.pos_disk.proofs.Common.{arith, length, rules, ◌+◌, ◌-◌, ◌≡◌, ◌≤◌}
use Rattle.pos_disk.proofs.SpoilLemmas.{loosens_on}
use Rattle.pos_disk.proofs.fuse.loosen.Goals as goal

pub loop-place-preserved : goal.loop-place-preserved
loop-place-preserved g c =
    let D = g.D.Disk in
    let k = c.loop-place.place in
    let from = c.args.from in
    let inv = c.loop-place.invariant in
    let place : from + (k - from) ≡ k = omega (arith, inv.from) in
    let one : length c.read.new.out ≡ 1 = search rules in
    let next : k + 1 - from ≡ k - from + 1 = omega (arith, inv.from) in
    record {
      from = omega (arith, inv.from);
      size = cc;
      fixed = cc;
      honest = search rules;
      loosens = λ h.
          let start = inv.honest.0 h in
          let fits : from + (k - from) + 1 ≤ length (D.state c.loop-place.disk).reading = omega (
            arith,
            inv.from,
            inv.size,
            c.requires.size,
            c.loop-place-test.true,
            g.met.D.Disk.whole c.loop-place.disk start,
          ) in
          rw next (loosens_on (D.state c.args.disk.now) (D.state c.loop-place.disk) (D.state c.read.new.self)
          (D.state c.write.new.self) from (k - from) c.read.new.out c.read.result c.write.result
          (inv.loosens h) one fits
          (rw place (c.read.ensures.reads start)) (rw place (c.write.ensures.writes (c.read.ensures.honest.0 start))));
    }
