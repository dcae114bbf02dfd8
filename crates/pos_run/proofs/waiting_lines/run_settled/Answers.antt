use Rattle.pos_run.proofs.Common.{Ok, arith, session_of, ◌≡◌}
use Rattle.pos_counter.specs.Hosts.{progress_in}
use Rattle.pos_run.proofs.WaitingLemmas.{cuts_settled, leaves_as, tells_settled}
use Rattle.pos_run.specs.WaitingLines.{LeavesOrder}
use Rattle.pos_run.specs.declared.waiting_lines.LineProgress.TheVariants as held
use Rattle.pos_run.proofs.waiting_lines.run_settled.Goals as goal

pub returns-in-Ok-Printed-clause-line : goal.returns-in-Ok-Printed-clause-line
returns-in-Ok-Printed-clause-line g c line_in one =
    let old = session_of g.P.Peripheral c.args.names.now c.args.spares.now in
    let new = session_of g.P.Peripheral c.run_held.new.names c.run_held.new.spares in
    let before = g.W.Sink.given c.args.writer.now in
    let after = g.W.Sink.given c.run_held.new.writer in
    let told : c.run_held.result ≡ Ok held.Printed = grind (arith, c.in-Ok-Printed.is, c.in-Ok-Printed.field-0-is) in
    tells_settled g.D.Disk g.P.Peripheral (progress_in g.P.Awaits.course c.run_held.new.counter)
    (leaves_as g.D.Disk g.P.Peripheral g.P.Awaits.course LeavesOrder c.args.counter.now c.run_held.new.counter old new
    line_in before after told (c.run_held.ensures.line line_in one)) c.settle.ensures.stays
    c.settle.ensures.alone c.settle.ensures.tally c.settle.ensures.progress

pub returns-in-Err-clause-line : goal.returns-in-Err-clause-line
returns-in-Err-clause-line g c line_in one =
    cuts_settled g.D.Disk g.P.Peripheral (progress_in g.P.Awaits.course c.run_held.new.counter)
    (c.in-Err.ensures.line line_in one) c.settle-in-Err.ensures.stays
    c.settle-in-Err.ensures.alone c.settle-in-Err.ensures.tally c.settle-in-Err.ensures.progress
