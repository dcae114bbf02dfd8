use Rattle.pos_run.proofs.Common.{IsRun, RunsScript, [], begun_session, lines_read, names_of, refl, runs_join}
use Rattle.pos_run.proofs.Common.{script_steps, session_with, spares_in, streams_of, subst}
use Rattle.pos_run.proofs.LineLemmas.{carried_run}
use Rattle.pos_run.proofs.RunLemmas.{runs_through}
use Rattle.pos_run.proofs.scripts.run.Goals as goal

pub returns-in_default-clause-script : goal.returns-in_default-clause-script
returns-in_default-clause-script g c = (
  [],
  record {
    script = record { input = []; reader = (refl, refl); run = (refl, refl, refl) };
    through = runs_through g.D.Disk g.P.Peripheral
        (λ disk bytes honest since. g.met.D.Disk.only_now disk bytes honest since) c.args.counter.now c.args.counter.now
        [] refl;
  },
)

pub returns-clause-script : goal.returns-clause-script
returns-clause-script g c =
    let old = c.args.counter.now in
    let new = c.run_named.new.counter in
    let Runs = IsRun g.D.Disk g.P.Peripheral in
    let result = c.run_named.result in
    let session = begun_session (spares_in g.P.Peripheral c.args.spares.now) in
    let streams =
    streams_of g.R.Source c.args.reader.now c.run_named.new.reader g.W.Sink c.args.writer.now c.run_named.new.writer in
    let left = session_with (names_of c.run_named.new.names) (spares_in g.P.Peripheral c.run_named.new.spares) in
    let script : RunsScript Runs old session streams result left new =
    subst (λ names. RunsScript Runs old (session_with names (spares_in g.P.Peripheral c.args.spares.now)) streams result
    left new) c.new-names.ensures c.run_named.ensures.script in
    let run = carried_run Runs (λ counter. refl) (runs_join g.D.Disk g.P.Peripheral) old session
    (lines_read streams.reader_after.state script.input) streams.writer streams.writer_after result left new script.run
    in (
      names_of c.run_named.new.names,
      record {
        script = script;
        through = runs_through g.D.Disk g.P.Peripheral
            (λ disk bytes honest since. g.met.D.Disk.only_now disk bytes honest since) old new
            (script_steps script) run;
      },
    )
