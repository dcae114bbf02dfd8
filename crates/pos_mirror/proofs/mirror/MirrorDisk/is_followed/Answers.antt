use Rattle.pos_disk.proofs.Common.{arith, ◌≤◌, length}
use Rattle.pos_mirror.proofs.CallLemmas.{calls_follow}
use Rattle.pos_mirror.proofs.MirrorLemmas.{begins}
use Rattle.pos_mirror.specs.Mirror.{IsMirror, counts_mirrored, mirror_state}
use Rattle.pos_mirror.proofs.mirror.MirrorDisk.is_followed.Goals as goal

pub returns : goal.returns
returns g c = λ calls honest.
    let D = g.D.Disk in
    let old = c.args.earlier.now in
    let is : IsMirror D old = rw c.earlier.view_is at c.earlier.invariant in
    let fits : length old.memory.present.reading ≤ length (D.state old.below).reading =
    omega (arith, is.fits, g.met.D.Disk.whole old.below honest) in
    (calls_follow D old (D.state old.below).moment (mirror_state old).moment calls (
      honest,
      begins (λ bytes. g.met.D.Disk.only_now old.below bytes honest) (omega arith)
          (counts_mirrored old (mirror_state old).moment) fits (is.shows honest).covers,
    )).1
