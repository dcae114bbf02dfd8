use Rattle.pos_run.proofs.Common.{Failed, Finishes, IsRun, List, StandsFor, [], answers_of, complete_lines, lines_read}
use Rattle.pos_run.proofs.Common.{most_reads, reading_of, taken_after, ℕ, ◌-◌, ◌≡◌}
use Rattle.pos_run.specs.Sessions.{KeepsSession, session_in}
use Rattle.pos_run.proofs.scripts.run_script.Given as goal

-- the lines of the bytes that were taken so far are carried out, and no read failed
abbrev pub invariant-loop-reader : goal.invariant-loop-reader
invariant-loop-reader g l = KeepsSession g.P.Peripheral l.initial.session l.session × (input : List ℕ)
    × (g.R.Source.taken l.reader.reader ≡ taken_after (g.R.Source.taken l.initial.reader.reader) input)
    × StandsFor l.buffer input × (lines_read l.reader.state input ≡ complete_lines input) × (l.reader.state ≡ Failed
    → (reading_of g.R.Source l.reader ≡ reading_of g.R.Source l.initial.reader) × (input ≡ []))
    × Finishes (IsRun g.D.Disk g.P.Peripheral) l.initial.session.counter.now
    (session_in g.P.Peripheral l.initial.session) (complete_lines input) (answers_of g.W.Sink l.initial.writer)
    (answers_of g.W.Sink l.writer) (session_in g.P.Peripheral l.session) l.session.counter.now

abbrev pub decreases-loop-reader : goal.decreases-loop-reader
decreases-loop-reader g l = most_reads - l.reader.reads
