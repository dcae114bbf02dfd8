use Rattle.std.proofs.Common.{Err, List, Ok, refl, subst}
use Rattle.pos_shell.specs.Outputs.{output_of}
use Rattle.pos_shell.specs.declared.trials.Trial.{Trial}
use Rattle.pos_tool.specs.Trials.{WritesTrials}
use Rattle.pos_tool.proofs.scripts.try_over.Goals as goal

pub returns-in-Ok : goal.returns-in-Ok
returns-in-Ok g c = (
  Ok c.in-Ok.trials.items,
  c.in-Ok.ensures,
  subst (λ (trials : List Trial). WritesTrials g.S.FileSystem g.S.Folder g.S.File.BlockFile c.args.system.now
      c.write_trials.new.system c.args.is_painted c.args.report trials (output_of g.W.Sink c.args.writer.now)
      (output_of g.W.Sink c.write_trials.new.writer) c.write_trials.result) c.deref.ensures.value
      c.write_trials.ensures,
)

pub returns-in-Err : goal.returns-in-Err
returns-in-Err g c = (Err c.in-Err.fault, c.in-Err.ensures, (refl, refl, refl))
