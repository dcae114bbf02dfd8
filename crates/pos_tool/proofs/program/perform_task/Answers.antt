use Rattle.std.proofs.Common.{refl, sym}
use Rattle.pos_tool.proofs.program.perform_task.Goals as goal

pub returns-in-Run : goal.returns-in-Run
returns-in-Run g c =
    rw c.in-Run.is (rw (sym c.deref.ensures.value) (rw (sym c.are_both.ensures) c.run_paths.ensures), refl)
