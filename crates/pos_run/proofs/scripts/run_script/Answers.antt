use Rattle.pos_run.proofs.Common.{[], answers_of, arith, inl, inr, reading_of, refl, runs_join, take, taken_none, ◌++◌}
use Rattle.pos_run.proofs.LineLemmas.{fault_join, finishes_flushed, finishes_join, finishes_none}
use Rattle.pos_run.proofs.LineLemmas.{stops_join}
use Rattle.pos_run.proofs.ReadLemmas.{ends, goes_on}
use Rattle.pos_run.proofs.SessionLemmas.{keeps_here, keeps_on}
use Rattle.pos_run.proofs.scripts.run_script.Goals as goal

pub loop-reader-init : goal.loop-reader-init
loop-reader-init g c = (
  keeps_here c.requires.sound,
  [],
  taken_none _,
  c.requires.empty,
  grind arith,
  (λ failed. (refl, refl)),
  finishes_none refl (answers_of g.W.Sink c.args.writer.now),
)

pub returns-in-Ok-run_end-clause-script : goal.returns-in-Ok-run_end-clause-script
returns-in-Ok-run_end-clause-script g c =
    let (keeps, input, took, stands, same, failed, done) = c.loop-reader.invariant in
    let end = ends (reading_of g.R.Source c.args.reader.now) (reading_of g.R.Source c.loop-reader.reader)
    (reading_of g.R.Source c.read.new.self) input c.read.new.buffer took c.if-count-eq0.true c.in-Ok-read.ensures in
    let (lines, are, rest) = c.in-Ok-run_end.ensures.end input stands in
    record {
      input = input;
      reader = end;
      run = (
        rw (end.0, are)
            (finishes_join (runs_join g.D.Disk g.P.Peripheral) (finishes_flushed done c.in-Ok.ensures.given) rest.0),
        rest.1,
      );
    }

pub returns-in-Err-clause-script : goal.returns-in-Err-clause-script
returns-in-Err-clause-script g c =
    let (keeps, input, took, stands, same, failed, done) = c.loop-reader.invariant in
    let end = ends (reading_of g.R.Source c.args.reader.now) (reading_of g.R.Source c.loop-reader.reader)
    (reading_of g.R.Source c.read.new.self) input c.read.new.buffer took c.if-count-eq0.true c.in-Ok-read.ensures in
    let (lines, are, wrong) = c.in-Err.ensures.end input stands in
    record {
      input = input;
      reader = (inr end.1, λ broken. absurd (grind (arith, end.0, broken)));
      run = rw end.0 (fault_join (runs_join g.D.Disk g.P.Peripheral)
          (finishes_flushed done c.in-Ok.ensures.given) _ lines are _ _ _ wrong);
    }

pub returns-in_default-run_piece-clause-script : goal.returns-in_default-run_piece-clause-script
returns-in_default-run_piece-clause-script g c =
    let (keeps, input, took, stands, same, failed, done) = c.loop-reader.invariant in
    let piece = take c.in-Ok-read.count c.read.new.buffer in
    let more = goes_on (reading_of g.R.Source c.args.reader.now) (reading_of g.R.Source c.loop-reader.reader)
    (reading_of g.R.Source c.read.new.self) input c.read.new.buffer took c.in-Ok-read.count c.if-count-eq0.false
    c.in-Ok-read.ensures in
    let (lines, are, stops, none) = c.in_default-run_piece.ensures.piece input stands in
    record {
      input = input ++ piece;
      reader = (inl more.1, λ broken. absurd (grind (arith, more.0, broken)));
      run = inl (rw (more.0, are)
          (stops_join (runs_join g.D.Disk g.P.Peripheral) (finishes_flushed done c.in-Ok.ensures.given) stops));
    }

pub loop-reader-preserved : goal.loop-reader-preserved
loop-reader-preserved g c =
    let (keeps, input, took, stands, same, failed, done) = c.loop-reader.invariant in
    let piece = take c.in-Ok-read.count c.read.new.buffer in
    let more = goes_on (reading_of g.R.Source c.args.reader.now) (reading_of g.R.Source c.loop-reader.reader)
    (reading_of g.R.Source c.read.new.self) input c.read.new.buffer took c.in-Ok-read.count c.if-count-eq0.false
    c.in-Ok-read.ensures in
    let (lines, are, rest, then) = c.in-Ok-run_piece.ensures.piece input stands in (
      keeps_on g.P.Peripheral _ _ _ keeps c.in-Ok-run_piece.ensures.session,
      input ++ piece,
      more.1,
      then,
      rw more.0 refl,
      (λ broken. absurd (grind (arith, more.0, broken))),
      rw are (finishes_join (runs_join g.D.Disk g.P.Peripheral) (finishes_flushed done c.in-Ok.ensures.given) rest),
    )
