use Rattle.std.proofs.Common.{List, inr, subst, ℕ, ◌++◌, ◌∙◌}
use Rattle.std.specs.Prelude.{codes}
use Rattle.pos_tool.specs.Whole.{PutsInstead}
use Rattle.pos_tool.proofs.whole.replace.Goals as goal

pub returns : goal.returns
returns g c =
    let path = c.args.path.now in
    let puts : List ℕ → List ℕ → Type 0 =
    (λ part old. PutsInstead g.S.FileSystem g.S.Folder g.S.File.BlockFile c.args.system.now c.put_instead.new.system
    c.args.held.now part path old c.args.bytes.now c.put_instead.result) in
    inr (subst (λ part. puts part (path ++ codes ".old")) (c.deref.ensures ∙ c.in_ok-part.ensures)
    (subst (λ old. puts c.deref.result.now old) (c.deref-2.ensures ∙ c.in_ok-old.ensures) c.put_instead.ensures))
