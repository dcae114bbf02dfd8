use Rattle.std.proofs.Common.{refl, ◌++◌}
use Rattle.pos_counter.proofs.RunLemmas.{runs_join}
use Rattle.pos_run.specs.LineRuns.{session_of}
use Rattle.pos_shell.proofs.RunLemmas.{front_stopped, front_whole}
use Rattle.pos_shell.proofs.scripts.print_text.Goals as goal

pub returns-in_default-clause-told : goal.returns-in_default-clause-told
returns-in_default-clause-told g c =
    let stops = c.in_default.ensures.lines in
    let left = session_of g.P.Peripheral c.run_given_lines.new.names c.run_given_lines.new.spares in (
      stops.done.transcript.steps ++ stops.failed.carried.steps,
      runs_join g.D.Disk g.P.Peripheral _ _ _ _ _ stops.done.transcript.run stops.failed.carried.run,
      (front_stopped {left = left} stops, refl),
    )

pub returns-in_default-told-clause-told : goal.returns-in_default-told-clause-told
returns-in_default-told-clause-told g c =
    let done = c.in-Ok.ensures.lines in (
      done.transcript.steps,
      done.transcript.run,
      (front_whole _ done.transcript.steps done.text done.transcript.prints, refl),
    )
