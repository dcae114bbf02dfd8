use Rattle.pos_run.proofs.Common.{Appends, length, take, ◌-◌, ◌≤◌}
use Rattle.pos_run.proofs.answers.write_front.Given as goal

abbrev pub invariant-loop-done : goal.invariant-loop-done
invariant-loop-done g l = (l.done ≤ length l.bytes)
    × Appends (g.W.Sink.given l.initial.writer) (g.W.Sink.given l.writer) (take l.done l.bytes)

abbrev pub decreases-loop-done : goal.decreases-loop-done
decreases-loop-done g l = length l.bytes - l.done
