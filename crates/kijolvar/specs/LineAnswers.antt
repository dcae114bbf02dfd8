-- What a call with lines does and answers (abi/README.md).
use Rattle.std.specs.Prelude.{◌≡◌, ◌≢◌, ◌==◌, [], ℕ, List, Ok, Err, Result, MatchResult, false, true, if◌then◌else◌}
use Rattle.std.specs.declared.vec.Vec.{Vec}
use Rattle.std.specs.declared.alloc.Global.{Global}
use Rattle.pos_disk.specs.declared.device.Disk.{Ghosts as DiskGhosts}
use Rattle.pos_service.specs.declared.peripheral.Peripheral.{Ghosts}
use Rattle.pos_drive.specs.declared.courses.Course.{Course}
use Rattle.pos_script.specs.Lines.{lines_of}
use Rattle.pos_streams.specs.Streams.{given_with}
use Rattle.pos_streams.specs.Transfers.{given_to}
use Rattle.pos_run.specs.WaitingLines.{lines_in}
use Rattle.kijolvar.specs.declared.device.Device.{Device}
use Rattle.kijolvar.specs.declared.till_state.TillState.{TillState}
use Rattle.kijolvar.specs.declared.till_disk.Settlement.{Settlement}
use Rattle.kijolvar.specs.declared.till_disk.Settlement.TheVariants.{InMemory, Settled, Owed, Failed}
use Rattle.kijolvar.specs.Codes.{disk_failed, no_memory, undone, waits}
use Rattle.kijolvar.specs.HeldLines.{GoesOn}
use Rattle.kijolvar.specs.TillDisks.{HostedDisk}
use Rattle.kijolvar.specs.Tills.{RunsText, HandsOver, KeepsRest, Undone, session_in, settlement_of}

-- The lines of a text are carried out by a till with driven devices, up to one that waits.
pub record RunsDriven (bound : DiskGhosts HostedDisk) (hosts : Device → Course) (peripherals : Ghosts Device)
    (old : TillState) (text : List ℕ) (new : TillState) : Type 0 where
  pub lines : List (Vec ℕ Global)
  pub are : lines_in lines ≡ lines_of text
  pub go_on : GoesOn bound hosts peripherals old.counter (session_in peripherals old)
      (given_with [] (given_to old.answer).faults) lines new
  pub rest : KeepsRest old new

-- what lines do to a till, or the code that says why they do nothing: one waits already, or there was no memory for
-- them; without a driven device, and where none waits, they are carried out at once
pub record TakesLines (bound : DiskGhosts HostedDisk) (hosts : Device → Course) (peripherals : Ghosts Device)
    (old : TillState) (text : List ℕ) (result : Result (Unit {0}) ℕ) (new : TillState) : Type 0 where
  pub one_waits : old.held.items ≢ [] → (result ≡ Err waits) × (new ≡ old)
  pub at_once : old.held.items ≡ [] → old.is_driven ≡ false →
      (result ≡ Ok tt) × RunsText bound peripherals old text new
  pub driven : old.held.items ≡ [] → old.is_driven ≡ true → MatchResult result
      (λ u. RunsDriven bound hosts peripherals old text new) (λ why. (why ≡ no_memory) × (new ≡ old))

-- Nothing is carried out, and the code says why. Where there was no memory, an answer of no bytes is told.
pub record WritesWhy (before after : List ℕ) (needed_before needed code why : ℕ) : Type 0 where
  pub text_stays : after ≡ before
  pub needed_told : needed ≡ (if why == no_memory then 0 else needed_before)
  pub code_told : code ≡ why

-- the answer is handed over, or the code says why nothing was carried out
abbrev pub AnswersAs : Result (Unit {0}) ℕ → (till : TillState) (before after : List ℕ) (needed_before needed code : ℕ)
    → Type 0
AnswersAs (Ok u) till before after needed_before needed code = HandsOver till before after needed_before needed code
AnswersAs (Err why) till before after needed_before needed code = WritesWhy before after needed_before needed code why

-- lines are carried out, and their answer is handed over
pub record Served (bound : DiskGhosts HostedDisk) (hosts : Device → Course) (peripherals : Ghosts Device)
    (old : TillState) (text before after : List ℕ) (needed_before needed code : ℕ) (new : TillState) : Type 0 where
  pub result : Result (Unit {0}) ℕ
  pub takes : TakesLines bound hosts peripherals old text result new
  pub answers : AnswersAs result new before after needed_before needed code

-- what a call with lines leaves, by how the till's host stands to its disk
abbrev pub AnswersBy : Settlement → DiskGhosts HostedDisk → (Device → Course) → Ghosts Device → (old : TillState)
    (text before after : List ℕ) (needed_before needed code : ℕ) (new : TillState) → Type 0
AnswersBy InMemory bound hosts peripherals old text before after needed_before needed code new =
    Served bound hosts peripherals old text before after needed_before needed code new
AnswersBy Settled bound hosts peripherals old text before after needed_before needed code new =
    Served bound hosts peripherals old text before after needed_before needed code new
AnswersBy Owed bound hosts peripherals old text before after needed_before needed code new =
    Undone old before after needed_before needed code undone new
AnswersBy Failed bound hosts peripherals old text before after needed_before needed code new =
    Undone old before after needed_before needed code disk_failed new

abbrev pub Answers : DiskGhosts HostedDisk → (Device → Course) → Ghosts Device → (old : TillState)
    (text before after : List ℕ) (needed_before needed code : ℕ) (new : TillState) → Type 0
Answers bound hosts peripherals old = AnswersBy (settlement_of old) bound hosts peripherals old
