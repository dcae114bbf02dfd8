use Rattle.std.proofs.Common.{List, Ok, subst, ℕ}
use Rattle.pos_tool.specs.Whole.{Puts}
use Rattle.pos_tool.proofs.copies.load_text.Goals as goal

pub returns-in-Ok : goal.returns-in-Ok
returns-in-Ok g c =
    let put = subst (λ (bytes : List ℕ). Puts g.S.FileSystem g.S.Folder g.S.File.BlockFile c.args.system.now
    c.put_new.new.system c.args.to.now bytes c.put_new.result) c.deref.ensures.value c.put_new.ensures in
    (Ok c.in-Ok.bytes.items, c.in-Ok.ensures, (c.put_new.result, put, c.at_copy.ensures))
