use Rattle.pos_run.proofs.Common.{session_of, subst, sym, ◌∙◌}
use Rattle.pos_counter.specs.Hosts.{progress_in}
use Rattle.pos_drive.specs.declared.courses.Progress.{Progress}
use Rattle.pos_script.specs.Lines.{lines_of}
use Rattle.pos_run.proofs.WaitingLemmas.{cuts_failed, cuts_given, holds_line, tells_given}
use Rattle.pos_run.specs.WaitingLines.{IsNotHeld, is_out, text_of}
use Rattle.std.specs.Prelude.{true, ◌≡◌}
use Rattle.pos_run.proofs.waiting_lines.run_held.Goals as goal

pub returns-in_default-clause-line : goal.returns-in_default-clause-line
returns-in_default-clause-line g c line_in one = cuts_failed g.D.Disk g.P.Peripheral g.met.D.Disk.only_now
    c.args.counter.now c.run_given_lines.new.counter (session_of g.P.Peripheral c.args.names.now c.args.spares.now)
    (session_of g.P.Peripheral c.run_given_lines.new.names c.run_given_lines.new.spares)
    (lines_of c.args.line.now) line_in one (text_of c.new-text.result) (g.W.Sink.given c.args.writer.now)
    (g.W.Sink.given c.write_to.new.writer) (text_of c.run_given_lines.new.writer) c.new-text.ensures
    (progress_in g.P.Awaits.course c.run_given_lines.new.counter) c.write_to.result c.in_default.ensures.lines
    c.fails_only_long.ensures c.write_to.ensures

pub returns-in-Ok-write_to-clause-line : goal.returns-in-Ok-write_to-clause-line
returns-in-Ok-write_to-clause-line g c line_in one = tells_given g.D.Disk g.P.Peripheral g.met.D.Disk.only_now
    c.args.counter.now c.run_given_lines.new.counter (session_of g.P.Peripheral c.args.names.now c.args.spares.now)
    (session_of g.P.Peripheral c.run_given_lines.new.names c.run_given_lines.new.spares)
    (lines_of c.args.line.now) line_in one (text_of c.new-text.result) (g.W.Sink.given c.args.writer.now)
    (g.W.Sink.given c.write_to-in-Printed.new.writer) (text_of c.run_given_lines.new.writer) c.new-text.ensures
    (progress_in g.P.Awaits.course c.run_given_lines.new.counter) c.in-Ok.ensures.lines c.in-Ok-write_to.ensures
    (subst (λ (p : Progress). IsNotHeld p (text_of c.run_given_lines.new.writer).bytes) c.progress.ensures
    c.in-Printed.ensures)

pub returns-in-Printed-clause-line : goal.returns-in-Printed-clause-line
returns-in-Printed-clause-line g c line_in one = cuts_given g.D.Disk g.P.Peripheral g.met.D.Disk.only_now
    c.args.counter.now c.run_given_lines.new.counter (session_of g.P.Peripheral c.args.names.now c.args.spares.now)
    (session_of g.P.Peripheral c.run_given_lines.new.names c.run_given_lines.new.spares)
    (lines_of c.args.line.now) line_in one (text_of c.new-text.result) (g.W.Sink.given c.args.writer.now)
    (g.W.Sink.given c.write_to-in-Printed.new.writer) (text_of c.run_given_lines.new.writer) c.new-text.ensures
    (progress_in g.P.Awaits.course c.run_given_lines.new.counter) c.in-Ok.ensures.lines
    c.in-Err.ensures (subst (λ (p : Progress). IsNotHeld p
    (text_of c.run_given_lines.new.writer).bytes) c.progress.ensures c.in-Printed.ensures)

pub returns-in-Waits-clause-line : goal.returns-in-Waits-clause-line
returns-in-Waits-clause-line g c line_in one = (
  holds_line g.D.Disk g.P.Peripheral g.met.D.Disk.only_now c.args.counter.now c.run_given_lines.new.counter
      (session_of g.P.Peripheral c.args.names.now c.args.spares.now)
      (session_of g.P.Peripheral c.run_given_lines.new.names c.run_given_lines.new.spares)
      (lines_of c.args.line.now) line_in one (text_of c.new-text.result) (g.W.Sink.given c.args.writer.now)
      (g.W.Sink.given c.args.writer.now) (text_of c.run_given_lines.new.writer) c.new-text.ensures
      (progress_in g.P.Awaits.course c.run_given_lines.new.counter) c.in-Ok.ensures.lines c.in-Waits.ensures.1,
  subst (λ (p : Progress). is_out p ≡ true) c.progress.ensures c.in-Waits.ensures.0,
)

pub returns-clause-line : goal.returns-clause-line
returns-clause-line g c line_in one = (
  holds_line g.D.Disk g.P.Peripheral g.met.D.Disk.only_now c.args.counter.now c.run_given_lines.new.counter
      (session_of g.P.Peripheral c.args.names.now c.args.spares.now)
      (session_of g.P.Peripheral c.run_given_lines.new.names c.run_given_lines.new.spares)
      (lines_of c.args.line.now) line_in one (text_of c.new-text.result) (g.W.Sink.given c.args.writer.now)
      (g.W.Sink.given c.args.writer.now) (text_of c.run_given_lines.new.writer) c.new-text.ensures
      (progress_in g.P.Awaits.course c.run_given_lines.new.counter) c.in-Ok.ensures.lines c.in-NoMemory.ensures.1,
  sym c.progress.ensures ∙ c.in-NoMemory.ensures.0,
)
