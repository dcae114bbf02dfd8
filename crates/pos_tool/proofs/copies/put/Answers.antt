use Rattle.std.proofs.Common.{Bool, Ok, subst, sym}
use Rattle.pos_tool.specs.Copies.{PutsBack}
use Rattle.pos_tool.specs.Whole.{Replaces}
use Rattle.pos_tool.proofs.copies.put.Goals as goal

pub returns-in-Ok : goal.returns-in-Ok
returns-in-Ok g c =
    let over = subst (λ held. Replaces g.S.FileSystem g.S.Folder g.S.File.BlockFile c.args.system.now
    c.replace-answer.new.system held c.args.path.now c.args.bytes.now c.replace-answer.result) c.file.ensures
    c.replace-answer.ensures in
    subst (λ (replaces : Bool). PutsBack g.S.FileSystem g.S.Folder g.S.File.BlockFile c.args.system.now
    c.replace-answer.new.system c.args.path.now c.args.bytes.now replaces c.at_copy-in-Ok.result)
    (sym c.if-not-replaces.false) (
      Ok c.in-Ok.held,
      c.in-Ok.ensures.locks,
      (c.replace-answer.result, over, c.at_copy-in-Ok.ensures, c.close.ensures),
    )
