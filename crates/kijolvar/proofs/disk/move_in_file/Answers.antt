use Rattle.std.proofs.Common.{arith, refl}
use Rattle.kijolvar.proofs.MoveLemmas.{file_answers}
use Rattle.kijolvar.proofs.disk.move_in_file.Goals as goal

pub returns-in-Ok : goal.returns-in-Ok
returns-in-Ok c =
    file_answers c.args.bytes.now c.move_disk.result (omega arith)
    (rw c.in-Ok.ensures at c.move_disk.ensures refl)
