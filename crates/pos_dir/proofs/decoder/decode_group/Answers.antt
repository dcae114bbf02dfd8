use Rattle.pos_dir.proofs.Common.{arith, err_from_is_err_and}
use Rattle.pos_dir.proofs.GroupLemmas.{group_takes, no_group}
use Rattle.pos_dir.proofs.decoder.decode_group.Goals as goal

pub returns-in_default : goal.returns-in_default
returns-in_default c = λ text. no_group c.args.bytes.now text.0 c.in_default.ensures text.1 text.2

pub returns-in_err-changes : goal.returns-in_err-changes
returns-in_err-changes c =
    let found = c.in-Some.ensures in
    let takes = group_takes c.args.bytes.now found.0 (λ i. omega (arith, c.type_inv.bytes i)) found.1 in
    let p = err_from_is_err_and c.from_residual.result c.from_residual.ensures.1 in
    rw (p.1, p.2, c.in_err-changes.ensures) (found.0, takes.0, takes.1)

pub invariant_of-result : goal.invariant_of-result
invariant_of-result c = (group_takes c.args.bytes.now c.in_ok-changes.changes.items
    (λ i. omega (arith, c.type_inv.bytes i)) (grind arith)).0

pub returns : goal.returns
returns c = group_takes c.args.bytes.now c.in_ok-changes.changes.items
    (λ i. omega (arith, c.type_inv.bytes i)) (grind arith)
