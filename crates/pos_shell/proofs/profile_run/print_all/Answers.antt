use Rattle.std.proofs.Common.{None, Some, [], ap, inl, inr, refl, subst, sym}
use Rattle.pos_run.specs.LineRuns.{session_of}
use Rattle.pos_run.specs.Names.{ControlNames, names_of}
use Rattle.pos_run.specs.Spares.{spares_in}
use Rattle.pos_run.specs.Transcript.{begun_session, session_with}
use Rattle.pos_shell.specs.Outputs.{streams_of}
use Rattle.pos_shell.specs.ProfileRun.{Lines, PrintsAll, PrintsLines, lines_in}
use Rattle.pos_shell.proofs.profile_run.print_all.Goals as goal

pub returns-in_default-clause-told : goal.returns-in_default-clause-told
returns-in_default-clause-told g c = ([], [], refl, inl ((refl, refl), refl, refl))

pub returns-in-Some-clause-told : goal.returns-in-Some-clause-told
returns-in-Some-clause-told g c =
    let (steps, run, told) = c.print_scripts.ensures.told in (
      steps,
      names_of c.print_scripts.new.names,
      run,
      subst (λ (lines : Lines). PrintsAll c.args.style.now lines
          (begun_session (spares_in g.P.Peripheral c.args.spares.now)) steps (streams_of g.R.Source c.args.reader.now
          g.W.Sink c.args.writer.now) (streams_of g.R.Source c.args.reader.now g.W.Sink c.print_scripts.new.writer)
          c.print_scripts.result (session_of g.P.Peripheral c.print_scripts.new.names c.print_scripts.new.spares))
          (sym (ap lines_in c.in-Some.is)) (inr (subst (λ (names : ControlNames). PrintsLines c.args.style.now
          (Some c.in-Some.scripts.now) (session_with names (spares_in g.P.Peripheral c.args.spares.now)) steps
          (streams_of g.R.Source c.args.reader.now g.W.Sink c.args.writer.now) (streams_of g.R.Source c.args.reader.now
          g.W.Sink c.print_scripts.new.writer) c.print_scripts.result (session_of g.P.Peripheral
          c.print_scripts.new.names c.print_scripts.new.spares)) c.new-names.ensures (refl, told))),
    )

pub returns-clause-told : goal.returns-clause-told
returns-clause-told g c =
    let (steps, run, told) = c.converse.ensures.told in (
      steps,
      names_of c.converse.new.names,
      run,
      subst (λ (lines : Lines). PrintsAll c.args.style.now lines
          (begun_session (spares_in g.P.Peripheral c.args.spares.now)) steps
          (streams_of g.R.Source c.args.reader.now g.W.Sink c.args.writer.now)
          (streams_of g.R.Source c.converse.new.reader g.W.Sink c.converse.new.writer) c.converse.result
          (session_of g.P.Peripheral c.converse.new.names c.converse.new.spares)) (sym (ap lines_in c.in-None.is))
          (inr (subst (λ (names : ControlNames). PrintsLines c.args.style.now None (session_with names (spares_in
          g.P.Peripheral c.args.spares.now)) steps (streams_of g.R.Source c.args.reader.now g.W.Sink c.args.writer.now)
          (streams_of g.R.Source c.converse.new.reader g.W.Sink c.converse.new.writer) c.converse.result
          (session_of g.P.Peripheral c.converse.new.names c.converse.new.spares)) c.new-names.ensures told)),
    )
