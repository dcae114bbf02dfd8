use Rattle.pos_totals.proofs.Common.{arith, length, lit<, ◌<◌}
use Rattle.pos_totals.proofs.NumberLemmas.{length-tags, tags_more}
use Rattle.pos_totals.proofs.handles.count_from.Goals as goal

pub push-requires : goal.push-requires
push-requires c =
    let few : length c.loop-place.tags.items < 250 = grind (arith, length-tags c.args.first c.loop-place.place) in
    (lit< tt, few)

pub loop-place-preserved : goal.loop-place-preserved
loop-place-preserved c = rw (c.push.ensures.items, c.loop-place.invariant) (tags_more c.args.first c.loop-place.place)
