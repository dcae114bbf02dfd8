use Rattle.std.proofs.Common.{[], refl, subst, ◌++◌}
use Rattle.pos_counter.proofs.RunLemmas.{runs_join}
use Rattle.pos_run.specs.LineRuns.{session_of}
use Rattle.pos_run.specs.Names.{ControlNames, names_of}
use Rattle.pos_run.specs.Spares.{spares_in}
use Rattle.pos_run.specs.Transcript.{session_with}
use Rattle.pos_script.specs.Lines.{lines_of}
use Rattle.pos_shell.specs.Scripts.{RunsFront}
use Rattle.pos_shell.proofs.RunLemmas.{front_none, front_stopped}
use Rattle.pos_shell.proofs.trials.answer_all.Goals as goal

pub returns-in_default-clause-stopped : goal.returns-in_default-clause-stopped
returns-in_default-clause-stopped g c = ([], [], refl, front_none _ _)

pub returns-in_default-done-clause-stopped : goal.returns-in_default-done-clause-stopped
returns-in_default-done-clause-stopped g c =
    let stops = c.in_default-done.ensures.lines in
    let left = session_of g.P.Peripheral c.run_given_lines-done.new.names c.run_given_lines-done.new.spares in
    let steps = stops.done.transcript.steps ++ stops.failed.carried.steps in (
      steps,
      names_of c.run_given_lines-done.new.names,
      runs_join g.D.Disk g.P.Peripheral _ _ _ _ _ stops.done.transcript.run stops.failed.carried.run,
      subst (λ (names : ControlNames). RunsFront (session_with names (spares_in g.P.Peripheral c.args.spares.now))
          (lines_of c.args.script.now) steps left) c.new-names.ensures (front_stopped {left = left} stops),
    )
