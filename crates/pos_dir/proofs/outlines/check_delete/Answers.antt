use Rattle.pos_dir.proofs.Common.{arith, drop-map, map-append, refl, remove, slice_get-get_or, take-map}
use Rattle.pos_dir.proofs.OutlineLemmas.{file_at}
use Rattle.pos_dir.proofs.outlines.check_delete.Goals as goal

pub returns : goal.returns
returns g c = λ limits files same.
    let outlines = c.args.outlines.now.items in
    let found = file_at outlines files c.args.index _ same
    (slice_get-get_or outlines c.args.index c.remove-removed.result (grind arith)) in
    rw c.remove-removed.ensures.items
    (remove files c.args.index, rw found.1 refl, simp (map-append, ← take-map, ← drop-map, same))
