use Rattle.pos_totals.proofs.Common.{drop, map, reclaimed, take, ◌++◌, ◌≡◌}
use Rattle.pos_totals.proofs.handles.reclaim_tags.Given as goal

-- the tags before the place have the claim where they are meant
abbrev pub invariant-loop-tag : goal.invariant-loop-tag
invariant-loop-tag l = l.tags
    ≡ map (reclaimed l.whose l.claim) (take l.tag-index l.fn.tags) ++ drop l.tag-index l.fn.tags
