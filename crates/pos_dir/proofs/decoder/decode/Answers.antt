use Rattle.pos_dir.proofs.Common.{arith, err_from_is_err_and, refl, rules}
use Rattle.pos_dir.proofs.DirectoryLemmas.{directory_takes, no_body}
use Rattle.pos_dir.proofs.decoder.decode.Goals as goal

pub returns-in_default : goal.returns-in_default
returns-in_default c = λ body. no_body c.args.limits c.args.bytes.now body.0
    (record { files = omega (arith, c.requires); bytes = search rules }) c.in_default.ensures body.1 body.2

pub returns-in_err-files : goal.returns-in_err-files
returns-in_err-files c =
    let found = c.in-Some.ensures in
    let takes =
    directory_takes c.args.limits c.args.bytes.now found.0 (λ i. omega (arith, c.type_inv.bytes i)) found.1 in
    let p = err_from_is_err_and c.from_residual.result c.from_residual.ensures.1 in
    rw (p.1, p.2, c.in_err-files.ensures) (found.0, takes.0, takes.1)

pub invariant_of-result : goal.invariant_of-result
invariant_of-result c = record {
  few = c.requires;
  writable = record { files = omega (arith, c.requires); bytes = search rules };
  directory = (directory_takes c.args.limits c.args.bytes.now c.in_ok-files.files.items
      (λ i. omega (arith, c.type_inv.bytes i)) (grind arith)).0;
}

pub returns : goal.returns
returns c =
    let takes = directory_takes c.args.limits c.args.bytes.now c.in_ok-files.files.items
    (λ i. omega (arith, c.type_inv.bytes i)) (grind arith) in
    (refl, takes.0, takes.1)
