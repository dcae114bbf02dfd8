use Rattle.pos_run.proofs.Common.{Finishes, IsRun, List, StandsFor, complete_lines, length, ℕ, ◌++◌, ◌≡◌}
use Rattle.pos_run.specs.Sessions.{KeepsSession, session_in}
use Rattle.pos_run.proofs.scripts.run_piece.Given as goal

-- the lines so far are carried out
abbrev pub invariant-loop-ended : goal.invariant-loop-ended
invariant-loop-ended g l =
    KeepsSession g.P.Peripheral l.initial.session l.session × ((read : List ℕ) → StandsFor l.initial.buffer read
    → (seen : List ℕ) × (lines : List (List ℕ)) × (l.piece ≡ seen ++ l.left) × (complete_lines (read ++ seen)
    ≡ complete_lines read ++ lines) × Finishes (IsRun g.D.Disk g.P.Peripheral) l.initial.session.counter.now
    (session_in g.P.Peripheral l.initial.session) lines (g.W.Sink.given l.initial.writer) (g.W.Sink.given l.writer)
    (session_in g.P.Peripheral l.session) l.session.counter.now × StandsFor l.buffer (read ++ seen))

abbrev pub decreases-loop-ended : goal.decreases-loop-ended
decreases-loop-ended g l = length l.left
