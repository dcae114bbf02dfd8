use Rattle.pos_dir.proofs.Common.{arith, nat_tests}
use Rattle.pos_dir.proofs.OutcomeLemmas.{answered}
use Rattle.pos_dir.proofs.OutlineLemmas.{same_size}
use Rattle.pos_dir.proofs.outlines.check.Goals as goal

pub returns-in-Some : goal.returns-in-Some
returns-in-Some g c = λ files same.
    let did = answered c.args.limits files c.args.change.now (c.in-Some.index, c.in-Some.least) c.in-Some.ensures in
    grind (arith, nat_tests, did, same_size c.args.outlines.now.items files c.in-Some.index same)

pub returns-in-Delete : goal.returns-in-Delete
returns-in-Delete g c = rw c.in-Delete.is (c.check_delete.ensures c.args.limits)

pub returns-in-Rename : goal.returns-in-Rename
returns-in-Rename g c = rw (c.in-Rename.is, ← c.as_slice-in-Rename.ensures) (c.check_rename.ensures c.args.limits)
