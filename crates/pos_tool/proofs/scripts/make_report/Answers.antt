use Rattle.std.proofs.Common.{List, inr, subst, ℕ, ◌∙◌}
use Rattle.pos_tool.specs.Whole.{PutsReport}
use Rattle.pos_tool.proofs.scripts.make_report.Goals as goal

pub returns : goal.returns
returns g c =
    let put = subst (λ (bytes : List ℕ). PutsReport g.S.FileSystem g.S.Folder g.S.File.BlockFile c.args.system.now
    c.put_report.new.system c.args.path.now bytes c.put_report.result) (c.deref.ensures.value ∙ c.in-Ok.ensures)
    c.put_report.ensures in
    inr (c.put_report.result, put, c.at_report.ensures)
