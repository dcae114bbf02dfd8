use Rattle.pos_dir.proofs.Common.{File, [], arith, length-replicate, map_push, replicate, ◌++◌, ◌∷◌}
use Rattle.pos_dir.proofs.OutlineLemmas.{outlining}
use Rattle.pos_dir.proofs.outlines.check_create.Goals as goal

pub returns : goal.returns
returns g c = λ files same.
    let file : File = record { name = c.args.name.now; bytes = replicate c.args.size 0 } in
    rw c.push.ensures.items (files ++ file ∷ [], grind (arith, outlining), simp (map_push, same, length-replicate))
