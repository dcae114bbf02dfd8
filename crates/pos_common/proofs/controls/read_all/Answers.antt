use Rattle.pos_common.proofs.Common.{[], ap, arith, length, refl}
use Rattle.pos_common.proofs.CopyLemmas.{all_read}
use Rattle.pos_common.proofs.controls.read_all.Goals as goal

pub loop-control-init : goal.loop-control-init
loop-control-init c =
    let items = c.into_iter-control-iterator.ensures.into_iter_gives.0 in
    record {
      count = omega (arith, c.into_iter-control-iterator.ensures.into_iter_gives.1, c.args.copies.ok, ap length items);
      reads = λ place scan are. rw (items, are.each) (all_read scan place 0 [] c.args.controls.now refl are.room);
    }
