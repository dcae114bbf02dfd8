use Rattle.std.proofs.Common.{Err, refl, sym, subst}
use Rattle.pos_program.specs.declared.fault.Fault.TheVariants as fault
use Rattle.pos_run.specs.Streams.{streams_of}
use Rattle.pos_console.specs.Program.{DoesAsRead}
use Rattle.pos_console.proofs.program.perform.Goals as goal

pub returns-in-Err : goal.returns-in-Err
returns-in-Err g c =
    let streams = streams_of g.R.Source c.args.reader.now c.args.reader.now g.W.Sink c.args.writer.now c.args.writer.now
    in
    let outcome = Err (fault.Words c.in-Err.fault) in
    record {
      outcome = outcome;
      done = subst (λ words. DoesAsRead g.F.NamedFiles g.F.FileCloser g.F.File.BlockFile _ c.args.files.now
          g.S.AsStr.text words streams outcome) (sym c.in-Err.is) (refl, (refl, refl));
      ends = c.end-in-Err.ensures;
    }
