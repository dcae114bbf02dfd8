use Rattle.pos_disk.proofs.Common.{arith, sym, ◌+◌, ◌-◌, ◌∙◌, ◌≡◌}
use Rattle.pos_disk.proofs.WriteLemmas.{saved_at_once}
use Rattle.pos_disk.proofs.memory.save.Goals as goal

pub returns-else-is_any_loose : goal.returns-else-is_any_loose
returns-else-is_any_loose c =
    let at = c.args.at in
    let len : at + c.args.len - at ≡ c.args.len = omega arith in
    let none = rw len at c.is_any_loose.ensures in
    rw (c.overwrite.ensures, len) (saved_at_once at c.requires.stamps c.requires.bytes c.requires.saved
    (sym none ∙ c.if-is_any_loose.false))
