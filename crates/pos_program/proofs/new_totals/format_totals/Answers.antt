use Rattle.pos_program.proofs.LeftLemmas.{leaves_formatted, leaves_unformatted}
use Rattle.pos_program.proofs.new_totals.format_totals.Goals as goal

pub returns-in-Ok : goal.returns-in-Ok
returns-in-Ok g c =
    let after = c.in-Ok.after in (
      after,
      leaves_formatted c.args.totals after c.requires.new c.file_is_mirrored.ensures.file (c.in-Ok.ensures.rest tt)
          (c.in-Ok.ensures.formatted tt),
      c.close_totals.ensures,
    )

pub returns-in-Err : goal.returns-in-Err
returns-in-Err g c =
    let after = c.in-Err.after in (
      after,
      leaves_unformatted c.args.totals after c.requires.new c.file_is_mirrored-in-Err.ensures.file
          (c.in-Err.ensures.rest tt) c.in-Err.fault (c.in-Err.ensures.refused tt),
      c.close_totals-in-Err.ensures,
    )
