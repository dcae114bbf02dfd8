use Rattle.std.proofs.Common.{List, length, ◌≡◌}
use Rattle.pos_counter.specs.Counters.{IsCounterSound, IsRun}
use Rattle.pos_counter.specs.Steps.{Request, Response}
use Rattle.pos_run.specs.LineRuns.{session_of}
use Rattle.pos_run.specs.Spares.{AreSparesSound}
use Rattle.pos_shell.specs.Conversation.{AnswersLines}
use Rattle.pos_shell.specs.Outputs.{streams_of}
use Rattle.pos_shell.specs.Scripts.{Turn}
use Rattle.pos_shell.proofs.conversation.converse.Given as goal

-- the lines so far were answered
abbrev pub invariant-loop-turn : goal.invariant-loop-turn
invariant-loop-turn g l = IsCounterSound g.P.Peripheral l.counter × AreSparesSound g.P.Peripheral l.spares
    × (steps : List (Request × Response)) × (turns : List Turn)
    × IsRun g.D.Disk g.P.Peripheral l.initial.counter steps l.counter × (length turns ≡ l._turn)
    × AnswersLines l.style turns (session_of g.P.Peripheral l.initial.names l.initial.spares) steps
    (streams_of g.R.Source l.initial.reader g.W.Sink l.initial.writer)
    (streams_of g.R.Source l.reader g.W.Sink l.writer) (session_of g.P.Peripheral l.names l.spares)
