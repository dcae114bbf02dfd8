-- What the program does to a counter as it carries out lines (docs/reference/console.md, "Answers").
use Rattle.std.specs.Prelude.{◌≡◌, ◌++◌, ◌⊎◌, ◌∷◌, [], ℕ, List, Some, Result, MatchResult, OnOk}
use Rattle.pos_streams.specs.Streams.{Given}
use Rattle.pos_disk.specs.declared.device.Disk.{Ghosts as DiskGhosts}
use Rattle.pos_service.specs.declared.peripheral.Peripheral.{Ghosts}
use Rattle.pos_counter.specs.declared.counter.Counter.{Counter}
use Rattle.pos_store.specs.Standing.{Standing}
use Rattle.pos_counter.specs.Counters.{IsRun, IsStep, IsStepBeside, RunsAnyhow, RunsFrom}
use Rattle.pos_counter.specs.Leaving.{IsSettled, Leaves}
use Rattle.pos_counter.specs.Steps.{Request, Response}
use Rattle.pos_run.specs.declared.names.Names.{Names}
use Rattle.pos_run.specs.declared.spares.Spares.{Spares}
use Rattle.pos_script.specs.declared.arguments.ArgumentFault.{ArgumentFault}
use Rattle.pos_script.specs.declared.print.LineReply.{LineReply}
use Rattle.pos_run.specs.Names.{names_of}
use Rattle.pos_run.specs.Spares.{spares_in}
use Rattle.pos_script.specs.declared.line_buffer.Line.{Line}
use Rattle.pos_script.specs.LineBuffers.{IsLine, Kept, StandsFor}
use Rattle.pos_script.specs.Lines.{complete_lines, lines_of}
use Rattle.pos_script.specs.Arguments.{Reading}
use Rattle.pos_script.specs.Commands.{LineRequest}
use Rattle.pos_script.specs.Text.{reply_text}
use Rattle.pos_script.specs.Writing.{Writes}
use Rattle.pos_run.specs.Transcript.{Session, session_with, RunsLine, AskingBecomes, ReadBecomes, ReadingBecomes}
use Rattle.pos_run.specs.declared.scripts.RunFault.{RunFault}
use Rattle.pos_run.specs.Runs.{Finishes, FinishesUnflushed, RunsScript, Stops, script_steps}
use Rattle.pos_run.specs.Streams.{IsFlushed, Streams, Writing}

-- the session of these names of controls and these spares
abbrev pub session_of : {P : Type 0} → Ghosts P → Names → Spares P → Session
session_of peripherals names spares = session_with (names_of names) (spares_in peripherals spares)

-- a counter is asked at most one thing; the totals may have no part in it
abbrev pub IsAsked : {D P : Type 0} → DiskGhosts D → Ghosts P
    → Counter D P → List (Request × Response) → Counter D P → Type 0
IsAsked bound peripherals old [] new = new ≡ old
IsAsked bound peripherals old (step ∷ []) new =
    IsStep bound peripherals old step.0 step.1 new ⊎ IsStepBeside peripherals old step.0 step.1 new
IsAsked bound peripherals old (step ∷ more ∷ steps) new = ⊥

-- What a line asks is carried out on a counter, with a session before and one after, and replied to.
pub record RunsAsking {D P : Type 0} (bound : DiskGhosts D) (peripherals : Ghosts P) (old : Counter D P)
    (session : Session) (asking : LineRequest) (reply : LineReply) (left : Session) (new : Counter D P) : Type 0 where
  pub carried : RunsLine (IsAsked bound peripherals) old (AskingBecomes session asking) (Some (reply_text reply))
      left new

-- What was read of a line's words is asked, or the reason why they weren't read is the reply. The reply is written as
-- far as it can be.
pub record RunsRead {D P E : Type 0} (bound : DiskGhosts D) (peripherals : Ghosts P) (old : Counter D P)
    (session : Session) (read : Result LineRequest ArgumentFault) (before after : Given)
    (result : Result (Unit {0}) E) (left : Session) (new : Counter D P) : Type 0 where
  pub reply : List ℕ
  pub carried : RunsLine (IsRun bound peripherals) old (ReadBecomes session read) (Some reply) left new
  pub written : Writes before after (reply ++ 10 ∷ []) result

-- What may be read of a line's words is carried out and replied to, and the reply is written as far as it can be.
pub record RunsReading {D P E : Type 0} (bound : DiskGhosts D) (peripherals : Ghosts P) (old : Counter D P)
    (session : Session) (reading : Reading LineRequest) (before after : Given)
    (result : Result (Unit {0}) E) (left : Session) (new : Counter D P) : Type 0 where
  pub reply : List ℕ
  pub carried : RunsLine (IsRun bound peripherals) old (ReadingBecomes session reading) (Some reply) left new
  pub written : Writes before after (reply ++ 10 ∷ []) result

-- lines are carried out from one session to another, all of them or as far as they can be written
abbrev pub RunsGivenLines : {D P E : Type 0} → DiskGhosts D → Ghosts P
    → Counter D P → Session → List (List ℕ) → Given → Given → Result (Unit {0}) E → Session
    → Counter D P → Type 0
RunsGivenLines bound peripherals old session lines before after result left new =
    MatchResult result
    (λ u. Finishes (IsRun bound peripherals) old session lines before after left new)
    (λ fault. Stops (IsRun bound peripherals) old session lines before after left new)

-- what was read of a line decides what becomes of it: the line is carried out, and written as far as it can be
abbrev pub RunsPrinted : {D P E : Type 0} → DiskGhosts D → Ghosts P
    → Counter D P → Session → Line → Given → Given → Result (Unit {0}) E → Session
    → Counter D P → Type 0
RunsPrinted bound peripherals old session line before after result left new = (bytes : List ℕ) → IsLine line bytes
    → RunsGivenLines bound peripherals old session (bytes ∷ []) before after result left new

-- A piece after what was read ends lines, which are carried out. If they all are, what is held then stands for what is
-- unfinished.
abbrev pub RunsPiece : {D P E : Type 0} → DiskGhosts D → Ghosts P
    → Counter D P → Session → Kept → List ℕ → Given → Given → Result (Unit {0}) E → Kept → Session
    → Counter D P → Type 0
RunsPiece bound peripherals old session buffered piece before after result buffered_after left new =
    (read : List ℕ) → StandsFor buffered read
    → (lines : List (List ℕ)) × (complete_lines (read ++ piece) ≡ complete_lines read ++ lines)
    × RunsGivenLines bound peripherals old session lines before after result left new
    × OnOk result (StandsFor buffered_after (read ++ piece))

-- at the end of what was read its last line is carried out, if there is one
abbrev pub RunsLast : {D P E : Type 0} → DiskGhosts D → Ghosts P
    → Counter D P → Session → Kept → Given → Given → Result (Unit {0}) E → Session
    → Counter D P → Type 0
RunsLast bound peripherals old session buffered before after result left new =
    (read : List ℕ) → StandsFor buffered read
    → (lines : List (List ℕ)) × (lines_of read ≡ complete_lines read ++ lines)
    × RunsGivenLines bound peripherals old session lines before after result left new

-- likewise, and all that was printed is given to the sink, which is flushed, or could not be
abbrev pub RunsEnd : {D P E : Type 0} → DiskGhosts D → Ghosts P
    → Counter D P → Session → Kept → Writing → Writing → Result (Unit {0}) E → Session → Counter D P → Type 0
RunsEnd bound peripherals old session buffered before after result left new =
    (read : List ℕ) → StandsFor buffered read
    → (lines : List (List ℕ)) × (lines_of read ≡ complete_lines read ++ lines)
    × MatchResult result
    (λ u. Finishes (IsRun bound peripherals) old session lines before.given after.given left new × IsFlushed after)
    (λ fault. Stops (IsRun bound peripherals) old session lines before.given after.given left new
    ⊎ FinishesUnflushed (IsRun bound peripherals) old session lines before.given after.given left new)

-- From an old counter to a new one, a run, for all that the disk may leave before it. A crash at any moment of the run
-- leaves what may be left before or after one of its steps. A crash after the run leaves what may be left after the
-- last. Whatever the disk is, each request that spares it is a step.
abbrev pub RunsThrough : {D P : Type 0} → DiskGhosts D → Ghosts P
    → Counter D P → List (Request × Response) → Counter D P → Type 0
RunsThrough bound peripherals old steps new =
    IsRun bound peripherals old steps new
    × ((left : List Standing) → Leaves bound old.totals left → RunsFrom bound peripherals left old steps new)
    × ((left : List Standing) (failures : ℕ) → IsSettled old.totals.totals left
    → RunsAnyhow peripherals left failures old steps new)

-- What a run of a script leaves of a counter, however it ended. What all lines that were carried out asked is one run.
-- A crash at any moment since the start is in one of its steps.
pub record RunsWholeScript {D P : Type 0} (bound : DiskGhosts D) (peripherals : Ghosts P) (old : Counter D P)
    (session : Session) (streams : Streams) (result : Result (Unit {0}) RunFault) (left : Session) (new : Counter D P)
    : Type 0 where
  pub script : RunsScript (IsRun bound peripherals) old session streams result left new
  pub through : RunsThrough bound peripherals old (script_steps script) new
