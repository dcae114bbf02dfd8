use Rattle.pos_image.proofs.Common.{HasHead, List, arith, subst, ℕ}
use Rattle.pos_image.proofs.FieldLemmas.{head_here}
use Rattle.pos_image.proofs.heads.read_head.Goals as goal

pub returns-clause-head : goal.returns-clause-head
returns-clause-head g c honest =
    let whole = g.met.D.Disk.whole c.args.disk.now honest in
    let head =
    subst (λ (b : List ℕ). HasHead b 0 c.head_in.result) (c.in_ok-bytes.ensures.bytes honest) c.head_in.ensures in
    head_here (g.D.Disk.state c.args.disk.now).reading c.args.at c.head_in.result
    (omega (arith, whole, c.requires)) head
