use Rattle.pos_image.proofs.Common.{arith}
use Rattle.pos_image.proofs.NewDiskLemmas.{new_disk}
use Rattle.pos_image.proofs.StageLemmas.{so_ok}
use Rattle.pos_image.proofs.new_disks.lay_out.Goals as goal

pub returns-clause-new : goal.returns-clause-new
returns-clause-new g c honest =
    let honest1 = c.close_gates.ensures.keeps.honest.0 honest in
    let honest2 = c.write_through.ensures.keeps.honest.0 honest1 in
    let whole = g.met.D.Disk.whole c.close_gates.new.disk honest1 in
    so_ok c.write_through-2.result _ _ (λ gate. new_disk _ _ _ (omega (
      arith,
      whole,
      c.close_gates.ensures.keeps.size,
      c.requires.large,
    )) (c.in_ok-close_gates.ensures.closed honest) (c.in_ok-write_through.ensures.written honest1)
    (c.in_ok-write_through.ensures.same honest1) gate) (c.write_through-2.ensures.written honest2)
