use Rattle.pos_dir.proofs.Common.{[], arith, change_at, group_at, items_at, nat_tests, nil_from_length, ◌≡◌}
use Rattle.pos_dir.proofs.ItemLemmas.{some_read}
use Rattle.pos_dir.proofs.changes.locate_changes.Goals as goal

pub returns : goal.returns
unfolding group_at
returns c =
    let read =
    some_read (items_at change_at c.in_ok-count.count c.in_ok-count.rest.now) c.in_ok-end.end.now c.in_ok-end.ensures in
    let none : c.in_ok-end.end.now ≡ [] = nil_from_length c.in_ok-end.end.now (grind (arith, nat_tests)) in
    (read.0, grind (arith, read.1), grind (arith, read.1))
