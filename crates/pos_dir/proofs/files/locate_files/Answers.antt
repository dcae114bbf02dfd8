use Rattle.pos_dir.proofs.Common.{[], arith, directory_at, file_at, items_at, nat_tests, nil_from_length, ◌≡◌}
use Rattle.pos_dir.proofs.ItemLemmas.{length_items, some_read}
use Rattle.pos_dir.proofs.files.locate_files.Goals as goal

pub returns : goal.returns
unfolding directory_at
returns c =
    let read = some_read (items_at file_at c.in_ok-count.count c.in_ok-count.rest.now) c.in_ok-end.end.now
    (grind (arith, nat_tests)) in
    let none : c.in_ok-end.end.now ≡ [] = nil_from_length c.in_ok-end.end.now (grind (arith, nat_tests)) in
    let many = length_items file_at c.in_ok-count.count c.in_ok-count.rest.now read.1 in
    (read.0, grind (arith, nat_tests, read.1, many), grind (arith, read.1))
