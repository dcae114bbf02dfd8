use Rattle.std.proofs.Common.{◌++◌, ◌∷◌, [], append_assoc}
use Rattle.std.specs.Prelude.{codes}
use Rattle.pos_script.proofs.print.print_error.Goals as goal

pub returns : goal.returns
returns g c =
    let a = c.format-code.result.now in
    let b = c.format-extended.result.now in
    rw (
      ← c.number.ensures,
      ← c.number-2.ensures,
      ← c.format-code.ensures.text,
      ← c.format-extended.ensures.text,
      ← c.format-locus.ensures.text,
    ) (rw (
      append_assoc (a ++ codes " " ++ b ++ codes " ") c.format-locus.result.now (10 ∷ []),
      append_assoc (a ++ codes " " ++ b) (codes " "),
      append_assoc (a ++ codes " ") b,
      append_assoc a (codes " "),
    ) c.write_parts.ensures)
