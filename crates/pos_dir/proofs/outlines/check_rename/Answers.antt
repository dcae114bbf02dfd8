use Rattle.pos_dir.proofs.Common.{Outline, arith, map-set, nat_tests, shape_of, shape_of_file, slice_get-get_or}
use Rattle.pos_dir.proofs.Common.{slice_get_within, slice_set, ◌≡◌}
use Rattle.pos_dir.proofs.OutlineLemmas.{file_at, remove-insert, same_name}
use Rattle.pos_dir.proofs.outlines.check_rename.Goals as goal

pub returns-then-is_taken : goal.returns-then-is_taken
returns-then-is_taken g c = λ limits files same.
    let outlines = c.args.outlines.now.items in
    let any : Outline = record { name = c.args.name; size = 0 } in
    let found = file_at outlines files c.args.index _ same (slice_get-get_or outlines c.args.index any (grind arith)) in
    grind (arith, nat_tests, found.1, same_name outlines files c.args.name.now same)

pub returns : goal.returns
returns g c = λ limits files same.
    let outlines = c.args.outlines.now.items in
    let i = c.args.index in
    let o = c.remove-size.result in
    let new : Outline = record { name = c.args.name; size = o.size } in
    let at = rw (← c.remove-size.ensures.value) at (slice_get-get_or outlines i o (grind arith)) in
    let found = file_at outlines files i o same at in
    let free = same_name outlines files new.name.now same in
    let shape : shape_of new ≡ shape_of_file (record found.0 { name = new.name.now }) = grind (arith, found.2) in
    rw (c.insert.ensures.items, c.remove-size.ensures.items) (
      slice_set files i (record found.0 { name = new.name.now }),
      rw (found.1, free) (grind (arith, nat_tests)),
      simp (remove-insert outlines i new (slice_get_within outlines i o at), map-set, same, shape),
    )
