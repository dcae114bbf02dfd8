use Rattle.std.proofs.Common.{refl}
use Rattle.pos_program.proofs.totals_disk.disk_over.Goals as goal

pub returns-in-Ok : goal.returns-in-Ok
returns-in-Ok g c = (c.over.result, c.over.ensures, rw c.in-Ok.is refl)

pub returns-in-Err : goal.returns-in-Err
returns-in-Err g c = (c.over.result, c.over.ensures, rw c.in-Err.is c.closed_fault.ensures)
