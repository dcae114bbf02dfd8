use Rattle.pos_program.proofs.LeftLemmas.{leaves_moved}
use Rattle.pos_program.proofs.migration.migrate_totals.Goals as goal

pub returns : goal.returns
returns g c =
    let (after, outcome) = c.migrate_disk-after.result in (
      after,
      outcome,
      leaves_moved c.args.totals after c.requires c.file_is_mirrored.ensures.file outcome
          (c.migrate_disk-after.ensures.moves tt) (c.migrate_disk-after.ensures.rest tt)
          (c.migrate_disk-after.ensures.counts tt),
      c.close_totals.ensures,
      c.file_result.ensures,
    )
