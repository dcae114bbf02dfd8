-- What a run of a script leaves (docs/reference/console.md, "The program").
use Rattle.std.specs.Prelude.{◌≡◌, ◌++◌, ◌∷◌, ◌⊎◌, [], ℕ, length, replicate, List, Option, None, Result, Ok, Err}
use Rattle.std.specs.Prelude.{option_map}
use Rattle.std.proofs.Common.{inl, inr}
use Rattle.pos_streams.specs.Streams.{Appends, Fails, Given}
use Rattle.pos_counter.specs.Machine.{Device, Machine}
use Rattle.pos_image.specs.declared.layout.Layout.TheVariants.{Layout1}
use Rattle.pos_service.specs.declared.kind.Kind.{Kind}
use Rattle.pos_totals.specs.HardTotals.{Off}
use Rattle.pos_service.specs.Peripherals.{PeripheralState}
use Rattle.pos_service.specs.Hardware.{hardware_of}
use Rattle.pos_store.specs.Standing.{Standing}
use Rattle.pos_totals.specs.Views.{TotalsView}
use Rattle.pos_counter.specs.Machine.{machine_with}
use Rattle.pos_counter.specs.Totals.{TotalsPart}
use Rattle.pos_counter.specs.Steps.{Request, Response}
use Rattle.pos_run.specs.declared.script_reader.ReadState.{ReadState}
use Rattle.pos_run.specs.declared.script_reader.ReadState.TheVariants.{Open, Ended, Failed}
use Rattle.pos_run.specs.declared.scripts.RunFault.{RunFault}
use Rattle.pos_run.specs.declared.scripts.RunFault.TheVariants as fault
use Rattle.pos_script.specs.Lines.{complete_lines, lines_of}
use Rattle.pos_script.specs.Text.{printed}
use Rattle.pos_script.specs.Writing.{IsCut}
use Rattle.pos_run.specs.Streams.{IsFlushed, Reading, ReadsOn, ReadsToEnd, ReadsToFault, Streams, Writing}
use Rattle.pos_run.specs.Transcript.{Leads, Session, Transcript, RunsLine, LineBecomes}

-- All lines were carried out, from one session to another, and their text was given to the sink.
pub record Finishes {C : Type 0} (Runs : Leads C) (old : C) (session : Session) (lines : List (List ℕ))
    (before after : Given) (left : Session) (new : C) : Type 0 where
  pub text : List ℕ
  pub transcript : Transcript Runs old session lines text left new
  pub written : Appends before after text

-- Likewise, but then a write or a flush failed.
pub record FinishesUnflushed {C : Type 0} (Runs : Leads C) (old : C) (session : Session) (lines : List (List ℕ))
    (before after : Given) (left : Session) (new : C) : Type 0 where
  pub text : List ℕ
  pub transcript : Transcript Runs old session lines text left new
  pub failed : Fails before after text

-- A line was carried out, and of what it prints a front was given, but not all, and then a write failed.
pub record StopsAt {C : Type 0} (Runs : Leads C) (old : C) (session : Session) (line : List ℕ)
    (before after : Given) (left : Session) (new : C) : Type 0 where
  pub reply : Option (List ℕ)
  pub carried : RunsLine Runs old (LineBecomes session line) reply left new
  pub cut : IsCut before after (printed reply)

-- A write failed at a line. The earlier lines were carried out and their text was given. The line was carried out too,
-- and of what it prints a front was given, but not all. No later line was carried out.
pub record Stops {C : Type 0} (Runs : Leads C) (old : C) (session : Session) (lines : List (List ℕ))
    (before after : Given) (left : Session) (new : C) : Type 0 where
  pub earlier : List (List ℕ)
  pub line : List ℕ
  pub later : List (List ℕ)
  pub given : Given
  pub between : Session
  pub mid : C
  pub split : lines ≡ earlier ++ line ∷ later
  pub done : Finishes Runs old session earlier before given between mid
  pub failed : StopsAt Runs mid between line given after left new

-- the lines that were read, by the bytes that were: those that a line feed ended, and at the end the last one too
abbrev pub lines_read : ReadState → List ℕ → List (List ℕ)
lines_read Open bytes = complete_lines bytes
lines_read Ended bytes = lines_of bytes
lines_read Failed bytes = complete_lines bytes

-- What a run leaves, by its result, of the lines that it read. All that they print was given to the sink, which was
-- flushed. If a write or a flush failed, it stopped at a line, or after all. If memory ran out, nothing has changed.
abbrev pub ScriptLeaves : {C : Type 0} → Leads C → C → Session → List (List ℕ) → Writing → Writing
    → Result (Unit {0}) RunFault → Session → C → Type 0
ScriptLeaves Runs old session lines before after (Ok u) left new =
    Finishes Runs old session lines before.given after.given left new × IsFlushed after
ScriptLeaves Runs old session lines before after (Err fault.Read) left new =
    Finishes Runs old session lines before.given after.given left new × IsFlushed after
ScriptLeaves Runs old session lines before after (Err fault.Write) left new =
    Stops Runs old session lines before.given after.given left new
    ⊎ FinishesUnflushed Runs old session lines before.given after.given left new
ScriptLeaves Runs old session lines before after (Err fault.NoMemory) left new =
    (new ≡ old) × (left ≡ session) × (after ≡ before)

-- how a run that took these bytes leaves its reader, by its result
abbrev pub ReaderLeaves : List ℕ → Reading → Result (Unit {0}) RunFault → Reading → Type 0
ReaderLeaves input old (Ok u) new = ReadsToEnd input old new
ReaderLeaves input old (Err fault.Read) new = ReadsToFault input old new
ReaderLeaves input old (Err fault.Write) new = ReadsOn input old new
ReaderLeaves input old (Err fault.NoMemory) new = (input ≡ []) × (new ≡ old)

-- what the lines that a run carried out asked of the machine, by its result: the line at which a write failed too
abbrev pub carried_steps : {C : Type 0} (Runs : Leads C) (old : C) (session : Session) (lines : List (List ℕ))
    (before after : Writing) (result : Result (Unit {0}) RunFault) (left : Session) (new : C)
    → ScriptLeaves Runs old session lines before after result left new → List (Request × Response)
carried_steps Runs old session lines before after (Ok u) left new (done, held) = done.transcript.steps
carried_steps Runs old session lines before after (Err fault.Read) left new (done, held) = done.transcript.steps
carried_steps Runs old session lines before after (Err fault.Write) left new (inl stops) =
    stops.done.transcript.steps ++ stops.failed.carried.steps
carried_steps Runs old session lines before after (Err fault.Write) left new (inr done) = done.transcript.steps
carried_steps Runs old session lines before after (Err fault.NoMemory) left new same = []

-- What a run leaves, from one session to another, by the bytes that it took from its source.
pub record RunsScript {C : Type 0} (Runs : Leads C) (old : C) (session : Session) (streams : Streams)
    (result : Result (Unit {0}) RunFault) (left : Session) (new : C) : Type 0 where
  pub input : List ℕ
  pub reader : ReaderLeaves input streams.reader result streams.reader_after
  pub run : ScriptLeaves Runs old session (lines_read streams.reader_after.state input) streams.writer
      streams.writer_after result left new

-- what the lines that it carried out asked of the machine
abbrev pub script_steps : {C : Type 0} {Runs : Leads C} {old : C} {session : Session} {streams : Streams}
    {result : Result (Unit {0}) RunFault} {left : Session} {new : C}
    → RunsScript Runs old session streams result left new → List (Request × Response)
script_steps {Runs = Runs} {old = old} {session = session} {streams = streams} {result = result} {left = left}
    {new = new} script = carried_steps Runs old session (lines_read streams.reader_after.state script.input)
    streams.writer streams.writer_after result left new script.run

-- a device of this name that is of a kind and has this peripheral, or none
abbrev pub device_with : List ℕ → Kind → Option PeripheralState → Device
device_with name kind state = record { name = name; kind = kind; hardware = option_map hardware_of state }

-- the machine with these devices, the Hard Totals of this name, if there are some, no control and no claim
abbrev pub begun_with : List Device → Option (List ℕ) → TotalsPart → Machine
begun_with devices totals part = machine_with [] (replicate (length devices) None) devices totals part

-- totals that are off, over a disk, with the layout of a new one
abbrev pub off_over : {D : Type 0} → D → TotalsView D
off_over disk = record {
  disk = disk;
  totals = record { layout = Layout1; mode = Off; tail = 0; next = 1; area = None; transactions = [] };
}

-- totals that are off, over a disk that may leave these and has failed this often
abbrev pub new_totals : List Standing → ℕ → TotalsPart
new_totals left failures = record {
  totals = record { layout = Layout1; mode = Off; tail = 0; next = 1; area = None; transactions = [] };
  left = left;
  failures = failures;
}
