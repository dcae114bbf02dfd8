use Rattle.std.proofs.Common.{List, Ok, false, subst, ℕ}
use Rattle.pos_tool.specs.Copies.{CopiesTo}
use Rattle.pos_tool.proofs.copies.back_up.Goals as goal

pub returns-in-Ok : goal.returns-in-Ok
returns-in-Ok g c = (
  Ok c.in-Ok.bytes.items,
  c.in-Ok.ensures,
  subst (λ (bytes : List ℕ). CopiesTo g.S.FileSystem g.S.Folder g.S.File.BlockFile c.args.system.now
      c.copy_bytes.new.system c.args.from.now c.args.to.now false bytes c.copy_bytes.result) c.deref.ensures.value
      c.copy_bytes.ensures,
)
