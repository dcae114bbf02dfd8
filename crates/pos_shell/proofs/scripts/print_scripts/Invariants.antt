use Rattle.std.proofs.Common.{List, take}
use Rattle.pos_counter.specs.Counters.{IsCounterSound, IsRun}
use Rattle.pos_counter.specs.Steps.{Request, Response}
use Rattle.pos_run.specs.LineRuns.{session_of}
use Rattle.pos_run.specs.Spares.{AreSparesSound}
use Rattle.pos_shell.specs.Outputs.{output_of}
use Rattle.pos_shell.specs.Scripts.{AreTurns, PrintsTurns, Turn}
use Rattle.pos_shell.proofs.scripts.print_scripts.Given as goal

-- the scripts so far were run and told
abbrev pub invariant-loop-script : goal.invariant-loop-script
invariant-loop-script g l = IsCounterSound g.P.Peripheral l.counter × AreSparesSound g.P.Peripheral l.spares
    × (steps : List (Request × Response)) × (turns : List Turn)
    × IsRun g.D.Disk g.P.Peripheral l.initial.counter steps l.counter × AreTurns (take l.script-index l.scripts) turns
    × PrintsTurns l.style turns (session_of g.P.Peripheral l.initial.names l.initial.spares) steps
    (output_of g.W.Sink l.initial.writer) (output_of g.W.Sink l.writer) (session_of g.P.Peripheral l.names l.spares)
