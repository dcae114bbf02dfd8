use Rattle.std.proofs.Common.{All, length}
use Rattle.pos_counter.specs.Counters.{IsCounterSound}
use Rattle.pos_run.specs.LineRuns.{session_of}
use Rattle.pos_run.specs.Spares.{AreSparesSound}
use Rattle.pos_run.specs.WaitingLines.{IsOneLine}
use Rattle.pos_run.proofs.WaitingLemmas.{CarriesSo}
use Rattle.pos_run.proofs.waiting_lines.carry_on.Given as goal

-- some lines are carried out, and the others are left
abbrev pub invariant-loop-line : goal.invariant-loop-line
invariant-loop-line g l = record {
  carries : CarriesSo g.D.Disk g.P.Peripheral g.P.Awaits.course l.initial.counter
      (session_of g.P.Peripheral l.initial.names l.initial.spares) l.initial.lines.items l.lines.items
      (g.W.Sink.given l.initial.writer) (g.W.Sink.given l.writer) l.counter
      (session_of g.P.Peripheral l.names l.spares);
  lines : All IsOneLine l.lines.items;
  sound : IsCounterSound g.P.Peripheral l.counter;
  spares : AreSparesSound g.P.Peripheral l.spares;
}

abbrev pub decreases-loop-line : goal.decreases-loop-line
decreases-loop-line g l = length l.lines.items
