-- How a script is read and its answers are written (docs/reference/console.md, "The program").
use Rattle.std.specs.Prelude.{◌≡◌, ℕ, zero, suc, ◌+◌, ◌≤◌, ◌⊎◌, Bool, true, false, List, [], length, take, Result}
use Rattle.std.specs.Prelude.{Ok, Err, nat_lt, is_err}
use Rattle.std.specs.Bool.{MatchBool}
use Rattle.pos_streams.specs.declared.sink.Sink.{Ghosts as SinkGhosts}
use Rattle.pos_streams.specs.declared.sink.WriteFault.{WriteFault}
use Rattle.pos_streams.specs.declared.source.ReadFault.{ReadFault}
use Rattle.pos_streams.specs.declared.source.Source.{Ghosts as SourceGhosts}
use Rattle.pos_streams.specs.Streams.{Appends, Fails, Given, IsWhole, Taken, TakesBytes, end_after, given_after}
use Rattle.pos_streams.specs.Streams.{read_fault_after, taken_after}
use Rattle.pos_run.specs.declared.answers.AnswerWriter.{AnswerWriter}
use Rattle.pos_run.specs.declared.script_reader.ReadState.{ReadState}
use Rattle.pos_run.specs.declared.script_reader.ReadState.TheVariants.{Open, Ended, Failed}
use Rattle.pos_run.specs.declared.script_reader.ScriptReader.{ScriptReader}

-- how often a script is read, at most
abbrev pub most_reads : ℕ
most_reads = 1073741824

-- whether a script may be read once more: no read failed, and there were fewer than may be
abbrev pub may_read : ReadState → ℕ → Bool
may_read Open reads = nat_lt reads most_reads
may_read Ended reads = nat_lt reads most_reads
may_read Failed reads = false

-- what a read found, by how many bytes it gave
abbrev pub found : Result ℕ ReadFault → ReadState
found (Ok zero) = Ended
found (Ok (suc count)) = Open
found (Err fault) = Failed

-- The state of a script's reader: what was taken from its source, how often it read, and what the last read found.
pub record Reading : Type 0 where
  pub taken : Taken
  pub reads : ℕ
  pub state : ReadState

-- The state of the writer of answers: all that it was given, how often its sink failed, and what it holds back. It also
-- has what its sink was given since it was last flushed.
pub record Writing : Type 0 where
  pub given : Given
  pub held : List ℕ
  pub unflushed : List ℕ

-- the state of a reader
abbrev pub reading_of : {R : Type 0} → SourceGhosts R → ScriptReader R → Reading
reading_of source reader = record {
  taken = source.taken reader.reader;
  reads = reader.reads;
  state = reader.state;
}

-- all that a writer of answers was given: what its sink was given, and then what it holds back
abbrev pub answers_of : {W : Type 0} → SinkGhosts W → AnswerWriter W → Given
answers_of sink answers = given_after (sink.given answers.writer) answers.held.items

-- the state of a writer
abbrev pub writing_of : {W : Type 0} → SinkGhosts W → AnswerWriter W → Writing
writing_of sink answers = record {
  given = answers_of sink answers;
  held = answers.held.items;
  unflushed = sink.unflushed answers.writer;
}

-- the sink was given all answers, and was flushed since
abbrev pub IsFlushed : Writing → Type 0
IsFlushed writing = (writing.held ≡ []) × (writing.unflushed ≡ [])

-- A read asks the source, counts, and keeps what it found. If a script may be read no more, each read fails and changes
-- nothing.
abbrev pub ReadsScript : Reading → List ℕ → Result ℕ ReadFault → Reading → Type 0
ReadsScript old buffer result new =
    MatchBool (may_read old.state old.reads)
    (TakesBytes old.taken buffer result new.taken × (new.reads ≡ old.reads + 1) × (new.state ≡ found result))
    ((is_err result ≡ true) × (new ≡ old))

-- all of these bytes were given, or this many of them, and then a write failed
abbrev pub WritesFront : Given → List ℕ → ℕ → Result (Unit {0}) WriteFault → Given → Type 0
WritesFront old bytes count (Ok u) new = (count ≡ length bytes) × Appends old new bytes
WritesFront old bytes count (Err fault) new = Fails old new (take count bytes)

-- these bytes were taken, and then the end was found
abbrev pub ReadsToEnd : List ℕ → Reading → Reading → Type 0
ReadsToEnd input old new =
    (new.state ≡ Ended) × (new.taken ≡ end_after (taken_after old.taken input)) × IsWhole new.taken

-- These bytes were taken, and then the script may be read no more. A read failed, it was read as often as it may be, or
-- a read had failed before, and nothing was read.
abbrev pub ReadsToFault : List ℕ → Reading → Reading → Type 0
ReadsToFault input old new = (may_read new.state new.reads ≡ false)
    × ((new.taken ≡ read_fault_after (taken_after old.taken input))
    ⊎ ((new.taken ≡ taken_after old.taken input) × (most_reads ≤ new.reads))
    ⊎ ((old.state ≡ Failed) × (input ≡ []) × (new ≡ old)))

-- these bytes were taken, and maybe the end was found then; no read failed
abbrev pub ReadsOn : List ℕ → Reading → Reading → Type 0
ReadsOn input old new =
    ((new.taken ≡ taken_after old.taken input) ⊎ (new.taken ≡ end_after (taken_after old.taken input)))
    × (new.state ≡ Failed → new ≡ old)

-- The states of a reader and a writer before a run, and after it.
pub record Streams : Type 0 where
  pub reader : Reading
  pub reader_after : Reading
  pub writer : Writing
  pub writer_after : Writing

-- the states of these before and after
abbrev pub streams_of : {R W : Type 0} → SourceGhosts R → ScriptReader R → ScriptReader R
    → SinkGhosts W → AnswerWriter W → AnswerWriter W → Streams
streams_of source reader reader_after sink writer writer_after = record {
  reader = reading_of source reader;
  reader_after = reading_of source reader_after;
  writer = writing_of sink writer;
  writer_after = writing_of sink writer_after;
}

-- nothing was read, and nothing was written
abbrev pub AreUntouched : Streams → Type 0
AreUntouched streams = (streams.reader_after ≡ streams.reader) × (streams.writer_after ≡ streams.writer)
