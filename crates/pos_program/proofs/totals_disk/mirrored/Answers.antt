use Rattle.std.proofs.Common.{refl}
use Rattle.pos_program.proofs.totals_disk.mirrored.Goals as goal

pub returns-in-Ok-clause-mirrors : goal.returns-in-Ok-clause-mirrors
returns-in-Ok-clause-mirrors g c = (c.over.result, c.over.ensures.opens, rw c.in-Ok.is refl)

pub returns-in-Err-clause-mirrors : goal.returns-in-Err-clause-mirrors
returns-in-Err-clause-mirrors g c =
    (c.over.result, c.over.ensures.opens, rw c.in-Err.is (c.fault_of_mirror.ensures, c.close.ensures))
