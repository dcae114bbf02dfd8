use Rattle.pos_totals.proofs.Common.{None, FileTag, ap, arith, get_or, get_or_default, map_over_more, reclaimed, set}
use Rattle.pos_totals.proofs.Common.{◌∙◌}
use Rattle.pos_totals.proofs.handles.reclaim_tags.Goals as goal

pub loop-tag-preserved : goal.loop-tag-preserved
loop-tag-preserved c =
    let tags = c.loop-tag.tags in
    let i = c.loop-tag.tag-index in
    let tag : FileTag = get_or tags i (record { handle = 0; claim = None }) in
    ap (set tags i) c.reclaim.ensures ∙ map_over_more (reclaimed c.args.whose c.args.claim) c.args.tags.now tags i tag
    (omega arith) c.loop-tag.invariant (get_or_default tags i _ tag (omega arith))
