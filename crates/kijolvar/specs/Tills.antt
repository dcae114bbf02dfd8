-- What a till is, and what is written of its answers (abi/README.md).
use Rattle.std.specs.Prelude.{◌≡◌, ◌≢◌, ◌++◌, ℕ, List, [], Ok, false, true, length, take, drop, nat_le}
use Rattle.pos_disk.specs.declared.device.Disk.{Ghosts as DiskGhosts}
use Rattle.pos_service.specs.declared.peripheral.Peripheral.{Ghosts}
use Rattle.pos_profile.specs.Entries.{Contents}
use Rattle.pos_counter.specs.Counters.{machine}
use Rattle.pos_counter.specs.declared.counter.Counter.{Counter}
use Rattle.pos_counter.specs.Totals.{TotalsPart}
use Rattle.pos_script.specs.Lines.{lines_of}
use Rattle.pos_streams.specs.Streams.{given_with}
use Rattle.pos_streams.specs.Transfers.{given_to}
use Rattle.pos_run.specs.LineRuns.{RunsGivenLines, session_of}
use Rattle.pos_run.specs.Runs.{off_over}
use Rattle.pos_run.specs.Simulations.{AreMounted, simulated_all, simulated_machine}
use Rattle.pos_run.specs.declared.waiting_lines.LineProgress.TheVariants.{Printed}
use Rattle.pos_run.specs.Transcript.{Session, begun_session}
use Rattle.kijolvar.specs.declared.device.Device.{Device}
use Rattle.kijolvar.specs.declared.till_state.TillState.{TillState}
use Rattle.kijolvar.specs.declared.till_disk.Settlement.{Settlement}
use Rattle.kijolvar.specs.declared.till_disk.Settlement.TheVariants.{InMemory, Settled, Owed, Failed}
use Rattle.kijolvar.specs.Errands.{WritesOldest}
use Rattle.kijolvar.specs.TillDisks.{DoesTold, FileFollows, HostedDisk, IsInFile, IsInStep, errands_of, fixed_of}
use Rattle.kijolvar.specs.TillDisks.{settlement_with}
use Rattle.kijolvar.specs.Codes.{carried, disk_failed, errands_left, ok}
use Rattle.kijolvar.specs.Orders.{mounts_device}

-- what the lines of a till have: the names of its controls, and its spares
abbrev pub session_in : Ghosts Device → TillState → Session
session_in peripherals till = session_of peripherals till.names till.spares

-- the disk of a till
abbrev pub disk_of : TillState → HostedDisk
disk_of till = till.counter.totals.disk

-- a counter with this disk
abbrev pub with_disk : Counter HostedDisk Device → HostedDisk → Counter HostedDisk Device
with_disk counter disk = record counter { totals = record counter.totals { disk = disk } }

-- how the host of a till stands to its disk
abbrev pub settlement_of : TillState → Settlement
settlement_of till = settlement_with (disk_of till).work till.failed

-- A new till over a disk: the devices of a profile, each served by what is simulated for it, its spares, no control,
-- totals that are off, and no order; no errand was told, and none failed. No device is driven.
pub record Begins (peripherals : Ghosts Device) (contents : Contents) (disk : HostedDisk)
    (till : TillState) : Type 0 where
  pub profile : till.profile ≡ contents
  pub served : (part : TotalsPart)
      → machine peripherals till.counter part ≡ simulated_machine contents.devices part
  pub totals : till.counter.totals ≡ off_over disk
  pub mounted : AreMounted mounts_device contents till.counter till.spares
  pub session : session_in peripherals till ≡ begun_session (simulated_all contents.spares)
  pub answer : given_to till.answer ≡ given_with [] 0
  pub outcome : till.outcome ≡ Ok tt
  pub told : till.told ≡ false
  pub failed : till.failed ≡ false
  pub orders : till.orders.items ≡ []
  pub is_driven : till.is_driven ≡ false
  pub held : till.held.items ≡ []
  pub left : till.left ≡ Printed

-- Beside the counter, the names, the spares, the answer with its outcome, and the lines that are held, nothing changes.
-- The host's file stays as it is, and none of the errands was told. Once they are done in it, it equals the totals'
-- disk. Until then a crash leaves of it only what one of the disk may have left since. The orders that wait stay too.
pub record KeepsRest (old new : TillState) : Type 0 where
  pub file : fixed_of (disk_of new) ≡ fixed_of (disk_of old)
  pub in_step : IsInStep (disk_of new)
  pub follows : FileFollows (disk_of old) (disk_of new)
  pub told : new.told ≡ false
  pub failed : new.failed ≡ old.failed
  pub profile : new.profile ≡ old.profile
  pub orders : new.orders ≡ old.orders
  pub is_driven : new.is_driven ≡ old.is_driven

-- The lines of a text are carried out in order, and the new answer is what they print; or, where there was no memory
-- for that, they are as far as it is there, and it is a front. None is held.
pub record RunsText (bound : DiskGhosts HostedDisk) (peripherals : Ghosts Device) (old : TillState)
    (text : List ℕ) (new : TillState) : Type 0 where
  pub lines : RunsGivenLines bound peripherals old.counter (session_in peripherals old) (lines_of text)
      (given_with [] (given_to old.answer).faults) (given_to new.answer) new.outcome (session_in peripherals new)
      new.counter
  pub held : new.held.items ≡ []
  pub left : new.left ≡ Printed
  pub rest : KeepsRest old new

-- The front of an answer that there is room for is written, what stands behind it in the room stays, and how long the
-- answer is is told.
pub record WritesAnswer (answer before after : List ℕ) (needed : ℕ) : Type 0 where
  pub written : after ≡ take (length before) answer ++ drop (length answer) before
  pub length_told : needed ≡ length answer

-- nothing is written, and the code is this one
pub record WritesNothing (before after : List ℕ) (needed_before needed code why : ℕ) : Type 0 where
  pub text_stays : after ≡ before
  pub needed_stays : needed ≡ needed_before
  pub code_told : code ≡ why

-- the answer is told, and the code of its lines
pub record WritesAll (till : TillState) (before after : List ℕ) (needed code : ℕ) : Type 0 where
  pub tells : WritesAnswer (given_to till.answer).bytes before after needed
  pub code_told : code
      ≡ carried till.outcome (nat_le (length (given_to till.answer).bytes) (length before)) till.left

-- what is handed over of a till's answer, by how its host stands to its disk: all of it, and the host's file equals
-- the totals' disk; or nothing while errands are left or one failed
abbrev pub HandsOverBy : Settlement → (till : TillState) (before after : List ℕ) (needed_before needed code : ℕ)
    → Type 0
HandsOverBy InMemory till before after needed_before needed code = WritesAll till before after needed code
HandsOverBy Settled till before after needed_before needed code =
    IsInFile (disk_of till) × WritesAll till before after needed code
HandsOverBy Owed till before after needed_before needed code =
    WritesNothing before after needed_before needed code errands_left
HandsOverBy Failed till before after needed_before needed code =
    WritesNothing before after needed_before needed code disk_failed

abbrev pub HandsOver : (till : TillState) (before after : List ℕ) (needed_before needed code : ℕ) → Type 0
HandsOver till = HandsOverBy (settlement_of till) till

-- nothing is carried out or told, and the code says why
pub record Undone (old : TillState) (before after : List ℕ) (needed_before needed code why : ℕ)
    (new : TillState) : Type 0 where
  pub stays : new ≡ old
  pub tells : WritesNothing before after needed_before needed code why

-- No errand is told, the code says why, and the till is the same.
pub record WritesNoErrand (old : TillState) (at_before at : ℕ) (before after : List ℕ)
    (needed_before needed code why : ℕ)
    (new : TillState) : Type 0 where
  pub stays : new ≡ old
  pub at_stays : at ≡ at_before
  pub tells : WritesNothing before after needed_before needed code why

-- The errand that was told is done, if one was. Of those that are left the oldest is told, if there is one and room for
-- it. If none is left, the host's file equals the totals' disk.
pub record WritesNext (old : TillState) (at_before at : ℕ) (before after : List ℕ) (needed_before needed code : ℕ)
    (new : TillState) : Type 0 where
  pub done : DoesTold old.told (disk_of old) (disk_of new)
  pub tells : WritesOldest (errands_of (disk_of new).work) at_before at before after needed_before needed code new.told
  pub in_file : code ≡ ok → IsInFile (disk_of new)
  pub stays : new ≡ record old { counter = with_disk old.counter (disk_of new); told = new.told }

-- what a call for the next errand writes and answers, by how the till's host stands to its disk
abbrev pub AnswersNextErrandBy : Settlement → (old : TillState) (at_before at : ℕ) (before after : List ℕ)
    (needed_before needed code : ℕ) (new : TillState) → Type 0
AnswersNextErrandBy InMemory old at_before at before after needed_before needed code new =
    WritesNoErrand old at_before at before after needed_before needed code ok new
AnswersNextErrandBy Settled old at_before at before after needed_before needed code new =
    IsInFile (disk_of old) × WritesNoErrand old at_before at before after needed_before needed code ok new
AnswersNextErrandBy Owed old at_before at before after needed_before needed code new =
    WritesNext old at_before at before after needed_before needed code new
AnswersNextErrandBy Failed old at_before at before after needed_before needed code new =
    WritesNoErrand old at_before at before after needed_before needed code disk_failed new

abbrev pub AnswersNextErrand : (old : TillState) (at_before at : ℕ) (before after : List ℕ)
    (needed_before needed code : ℕ)
    (new : TillState) → Type 0
AnswersNextErrand old = AnswersNextErrandBy (settlement_of old) old

-- that an errand failed is taken as said, unless there is no file
pub record Fails (old new : TillState) : Type 0 where
  pub stays : new ≡ record old { failed = true }
  pub failed : settlement_of old ≢ InMemory → settlement_of new ≡ Failed
  pub in_memory : settlement_of old ≡ InMemory → settlement_of new ≡ InMemory
