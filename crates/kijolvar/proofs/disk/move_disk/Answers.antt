use Rattle.kijolvar.proofs.MoveLemmas.{is_moved, isnt_moved}
use Rattle.kijolvar.proofs.disk.move_disk.Goals as goal

pub returns-in-Ok : goal.returns-in-Ok
returns-in-Ok c = λ same. is_moved c.migrate_disk-moved.result.0 c.with_errands.result same
    (rw c.in-Ok.is at c.migrate_disk-moved.ensures.moves tt)
    (c.migrate_disk-moved.ensures.rest tt) c.migrate_disk-moved.ensures.keeps.fixed c.with_errands.ensures

pub returns-in-Err : goal.returns-in-Err
returns-in-Err c = λ same. isnt_moved c.migrate_disk-moved.result.0 same
    (rw c.in-Err.is at c.migrate_disk-moved.ensures.moves tt) c.move_code.ensures
