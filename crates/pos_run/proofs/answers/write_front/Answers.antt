use Rattle.pos_run.proofs.Common.{Appends, Appends-trans, ap, arith, drop, length, length-take, subst, sym, take, ◌++◌}
use Rattle.pos_run.proofs.Common.{◌-◌, ◌∙◌}
use lib.Seq.{take-add, take-take}
use Rattle.pos_run.proofs.answers.write_front.Goals as goal

pub loop-done-preserved : goal.loop-done-preserved
loop-done-preserved g c =
    let done = c.loop-done.done in
    let n = c.in-Ok.count in
    let xs = c.args.bytes.now in
    let before = c.loop-done.invariant in
    let (some, fits, gave) = c.in-Ok.ensures in
    let most = length-take (length xs - done) (drop done xs) in
    let joined = ap (λ l. take done xs ++ l) (take-take n (length xs - done) (drop done xs) (omega arith))
    ∙ sym (take-add done n xs) in
    (omega arith, subst (Appends _ _) joined (Appends-trans _ _ _ _ _ before.1 gave))
