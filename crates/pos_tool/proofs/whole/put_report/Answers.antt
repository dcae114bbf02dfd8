use Rattle.std.proofs.Common.{List, Ok, false, inr, subst, ℕ, ◌∙◌}
use Rattle.pos_tool.specs.Whole.{RenamesPart, WritesPart}
use Rattle.pos_tool.proofs.whole.put_report.Goals as goal

pub returns : goal.returns
returns g c =
    let written = subst (λ (part : List ℕ). WritesPart g.S.FileSystem g.S.Folder g.S.File.BlockFile
    c.args.system.now c.write_part.new.system part false c.args.bytes.now (Ok c.in_ok-file.file))
    (c.deref.ensures ∙ c.in_ok-part.ensures) c.in_ok-file.ensures in
    let named = subst (λ (part : List ℕ). RenamesPart g.S.FileSystem g.S.Folder g.S.File.BlockFile
    c.write_part.new.system c.rename_part-answer.new.system c.in_ok-file.file part c.args.path.now
    c.rename_part-answer.result) (c.deref-2.ensures ∙ c.in_ok-part.ensures) c.rename_part-answer.ensures in
    inr (
      Ok c.in_ok-check_file.field-0,
      c.in_ok-check_file.ensures,
      (
        Ok c.in_ok-check_report.field-0,
        c.in_ok-check_report.ensures,
        (Ok c.in_ok-file.file, c.write_part.new.system, written, (named, c.close.ensures)),
      ),
    )
