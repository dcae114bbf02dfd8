-- What a host's report of an order does and answers (abi/README.md, "Driven devices").
use Rattle.std.specs.Prelude.{◌≡◌, ◌≢◌, ◌⊎◌, ◌==◌, [], ℕ, Bool, List, Ok, Err, Result, MatchResult, false, is_ok}
use Rattle.std.specs.Prelude.{true}
use Rattle.std.specs.declared.vec.Vec.{Vec}
use Rattle.std.specs.declared.alloc.Global.{Global}
use Rattle.pos_disk.specs.declared.device.Disk.{Ghosts as DiskGhosts}
use Rattle.pos_service.specs.declared.peripheral.Peripheral.{Ghosts}
use Rattle.pos_drive.specs.Courses.{reported_course}
use Rattle.pos_drive.specs.declared.courses.Progress.TheVariants as progress
use Rattle.pos_drive.specs.declared.courses.Course.{Course}
use Rattle.pos_counter.specs.declared.counter.Counter.{Counter}
use Rattle.pos_counter.specs.Counters.{Stays}
use Rattle.pos_counter.specs.HostTallies.{LeavesHostAlone, hears}
use Rattle.pos_counter.specs.Hosts.{changed_pending, hosts_in, progress_in}
use Rattle.pos_script.specs.Lines.{lines_of}
use Rattle.pos_streams.specs.Streams.{Given, given_with}
use Rattle.pos_streams.specs.Transfers.{given_to}
use Rattle.pos_run.specs.LineRuns.{RunsGivenLines}
use Rattle.pos_run.specs.Transcript.{Session}
use Rattle.pos_run.specs.WaitingLines.{lines_in}
use Rattle.pos_run.specs.declared.waiting_lines.LineProgress.TheVariants.{NoMemory, Printed}
use Rattle.kijolvar.specs.declared.device.Device.{Device}
use Rattle.kijolvar.specs.declared.till_state.TillState.{TillState}
use Rattle.kijolvar.specs.declared.till_disk.Settlement.{Settlement}
use Rattle.kijolvar.specs.declared.till_disk.Settlement.TheVariants.{InMemory, Settled, Owed, Failed}
use Rattle.kijolvar.specs.Codes.{disk_failed, no_memory, no_order, undone}
use Rattle.kijolvar.specs.HeldLines.{GoesOn, behind_first}
use Rattle.kijolvar.specs.LineAnswers.{AnswersAs}
use Rattle.kijolvar.specs.TillDisks.{HostedDisk}
use Rattle.kijolvar.specs.Tills.{KeepsRest, Undone, session_in, settlement_of}

-- The first device with an order takes the report that it is done, or is not, if the host has that order. It is
-- counted as the one that it is, and nothing else changes.
pub record IsReported (hosts : Device → Course) (peripherals : Ghosts Device) (is_done : Bool)
    (old new : Counter HostedDisk Device) : Type 0 where
  pub stays : Stays peripherals old new
  pub course : hosts_in hosts new ≡ changed_pending (reported_course is_done) (hosts_in hosts old)
  pub tally : new.tally ≡ hears is_done (progress_in hosts old) old.tally

-- Lines that found no memory go on.
pub record Resumes (bound : DiskGhosts HostedDisk) (hosts : Device → Course) (peripherals : Ghosts Device)
    (old new : TillState) : Type 0 where
  pub go_on : GoesOn bound hosts peripherals old.counter (session_in peripherals old)
      (given_with [] (given_to old.answer).faults) old.held.items new
  pub rest : KeepsRest old new

-- The order is done. The line that waits goes on, then the inputs, and then the others.
pub record TakesDone (bound : DiskGhosts HostedDisk) (hosts : Device → Course) (peripherals : Ghosts Device)
    (old : TillState) (inputs : List ℕ) (new : TillState) : Type 0 where
  pub reported : Counter HostedDisk Device
  pub reports : IsReported hosts peripherals true old.counter reported
  pub lines : List (Vec ℕ Global)
  pub are : lines_in lines ≡ behind_first (lines_of inputs) (lines_in old.held.items)
  pub go_on : GoesOn bound hosts peripherals reported (session_in peripherals old)
      (given_with [] (given_to old.answer).faults) lines new
  pub rest : KeepsRest old new

-- The order is not done. The inputs are carried out first, then the report is taken, and the line that waits goes on,
-- and then the others.
pub record TakesFailure (bound : DiskGhosts HostedDisk) (hosts : Device → Course) (peripherals : Ghosts Device)
    (old : TillState) (inputs : List ℕ) (new : TillState) : Type 0 where
  pub fed : Counter HostedDisk Device
  pub session : Session
  pub between : Given
  pub carries : RunsGivenLines {E = Unit {0}} bound peripherals old.counter (session_in peripherals old)
      (lines_of inputs) (given_with [] (given_to old.answer).faults) between (Ok tt) session fed
  pub reported : Counter HostedDisk Device
  pub reports : IsReported hosts peripherals false fed reported
  pub go_on : GoesOn bound hosts peripherals reported session between old.held.items new
  pub rest : KeepsRest old new

-- The order is not done, and memory ran out for what an input prints. No later line is carried out, none is held, and
-- no order is pending.
pub record CutsInputs (bound : DiskGhosts HostedDisk) (hosts : Device → Course) (peripherals : Ghosts Device)
    (old : TillState) (inputs : List ℕ) (new : TillState) : Type 0 where
  pub fed : Counter HostedDisk Device
  pub carries : RunsGivenLines bound peripherals old.counter (session_in peripherals old) (lines_of inputs)
      (given_with [] (given_to old.answer).faults) (given_to new.answer) new.outcome (session_in peripherals new) fed
  pub cut : is_ok new.outcome ≡ false
  pub stays : Stays peripherals fed new.counter
  pub tally : LeavesHostAlone fed.tally new.counter.tally
  pub ready : progress_in hosts new.counter ≡ progress.Ready
  pub held : new.held.items ≡ []
  pub left : new.left ≡ Printed
  pub rest : KeepsRest old new

-- the outcome of the report 0 is that the order is done
abbrev pub is_done : ℕ → Bool
is_done outcome = outcome == 0

-- What a report does to a till, or the code that says why it does nothing: the host has no order, or there was no
-- memory for the inputs. Where lines found no memory they go on, and nothing of the report is read.
pub record TakesReport (bound : DiskGhosts HostedDisk) (hosts : Device → Course) (peripherals : Ghosts Device)
    (old : TillState) (outcome : ℕ) (inputs : List ℕ) (result : Result (Unit {0}) ℕ) (new : TillState) : Type 0 where
  pub resumes : old.left ≡ NoMemory → (result ≡ Ok tt) × Resumes bound hosts peripherals old new
  pub no_order : old.left ≢ NoMemory → progress_in hosts old.counter ≢ progress.HandedOut →
      (result ≡ Err no_order) × (new ≡ old)
  pub done : old.left ≢ NoMemory → progress_in hosts old.counter ≡ progress.HandedOut → is_done outcome ≡ true →
      MatchResult result (λ u. TakesDone bound hosts peripherals old inputs new)
      (λ why. (why ≡ no_memory) × (new ≡ old))
  pub not_done : old.left ≢ NoMemory → progress_in hosts old.counter ≡ progress.HandedOut →
      is_done outcome ≡ false → (result ≡ Ok tt) × (TakesFailure bound hosts peripherals old inputs new
      ⊎ CutsInputs bound hosts peripherals old inputs new)

-- a report is taken, and the answer of its lines is handed over
pub record Reports (bound : DiskGhosts HostedDisk) (hosts : Device → Course) (peripherals : Ghosts Device)
    (old : TillState) (outcome : ℕ) (inputs before after : List ℕ) (needed_before needed code : ℕ)
    (new : TillState) : Type 0
  where
    pub result : Result (Unit {0}) ℕ
    pub takes : TakesReport bound hosts peripherals old outcome inputs result new
    pub answers : AnswersAs result new before after needed_before needed code

-- what a call with a report leaves, by how the till's host stands to its disk
abbrev pub AnswersReportBy : Settlement → DiskGhosts HostedDisk → (Device → Course) → Ghosts Device → (old : TillState)
    (outcome : ℕ) (inputs before after : List ℕ) (needed_before needed code : ℕ) (new : TillState) → Type 0
AnswersReportBy InMemory bound hosts peripherals old outcome inputs before after needed_before needed code new =
    Reports bound hosts peripherals old outcome inputs before after needed_before needed code new
AnswersReportBy Settled bound hosts peripherals old outcome inputs before after needed_before needed code new =
    Reports bound hosts peripherals old outcome inputs before after needed_before needed code new
AnswersReportBy Owed bound hosts peripherals old outcome inputs before after needed_before needed code new =
    Undone old before after needed_before needed code undone new
AnswersReportBy Failed bound hosts peripherals old outcome inputs before after needed_before needed code new =
    Undone old before after needed_before needed code disk_failed new

abbrev pub AnswersReport : DiskGhosts HostedDisk → (Device → Course) → Ghosts Device → (old : TillState) (outcome : ℕ)
    (inputs before after : List ℕ) (needed_before needed code : ℕ) (new : TillState) → Type 0
AnswersReport bound hosts peripherals old = AnswersReportBy (settlement_of old) bound hosts peripherals old
