use Rattle.std.proofs.Common.{List, Ok, Some, subst}
use Rattle.pos_shell.specs.Outputs.{streams_of}
use Rattle.pos_shell.specs.Runs.{RunsAll}
use Rattle.pos_shell.specs.declared.scripts.Script.{Script}
use Rattle.pos_shell.proofs.runs.run.Goals as goal

pub returns : goal.returns
returns g c = (
  Ok c.in-Ok.scripts.items,
  g.R.Source.taken c.read_scripts.new.reader,
  c.in-Ok.ensures,
  subst (λ (scripts : List Script). RunsAll g.F.NamedFiles g.F.File.BlockFile _ _ c.args.files.now c.args.style.now
      (Some scripts) c.args.profile c.args.totals
      (streams_of g.R.Source c.read_scripts.new.reader g.W.Sink c.args.writer.now)
      (streams_of g.R.Source c.run_all.new.reader g.W.Sink c.run_all.new.writer) c.run_all.result)
      c.as_slice.ensures.value c.run_all.ensures,
)
