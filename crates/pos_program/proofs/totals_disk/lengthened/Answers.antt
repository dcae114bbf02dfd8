use Rattle.std.proofs.Common.{inr, refl, subst, List, ℕ, ◌∙◌, ◌-◌, ap}
use Rattle.std.specs.Prelude.{replicate}
use Rattle.pos_file.specs.Disks.{Lengthens}
use Rattle.pos_image.specs.Layout.{disk_size}
use Rattle.pos_program.proofs.totals_disk.lengthened.Goals as goal

pub returns-in-Ok-lengthen : goal.returns-in-Ok-lengthen
returns-in-Ok-lengthen g c =
    let lengthens = subst (λ (zeros : List ℕ). Lengthens g.F.BlockFile.calls c.args.disk zeros c.lengthen.result)
    (c.deref.ensures.value ∙ c.in-Ok.ensures ∙ ap (λ size. replicate (disk_size - size) 0) c.len.ensures)
    c.lengthen.ensures in
    inr (c.lengthen.result, lengthens, rw c.in-Ok-lengthen.is refl)

pub returns : goal.returns
returns g c =
    let lengthens = subst (λ (zeros : List ℕ). Lengthens g.F.BlockFile.calls c.args.disk zeros c.lengthen.result)
    (c.deref.ensures.value ∙ c.in-Ok.ensures ∙ ap (λ size. replicate (disk_size - size) 0) c.len.ensures)
    c.lengthen.ensures in
    inr (c.lengthen.result, lengthens, rw c.in-Err.is c.closed_fault.ensures)
