-- Lines that are not carried out yet, and lines that go on (abi/README.md, "Driven devices").
use Rattle.std.specs.Prelude.{◌≡◌, ◌++◌, ◌∷◌, [], ℕ, List, All, Err, MatchResult, Ok, Result, drop, false, take}
use Rattle.std.specs.declared.vec.Vec.{Vec}
use Rattle.std.specs.declared.alloc.Global.{Global}
use Rattle.pos_disk.specs.declared.device.Disk.{Ghosts as DiskGhosts}
use Rattle.pos_service.specs.declared.peripheral.Peripheral.{Ghosts}
use Rattle.pos_drive.specs.declared.courses.Course.{Course}
use Rattle.pos_drive.specs.declared.courses.Progress.TheVariants as progress
use Rattle.pos_counter.specs.declared.counter.Counter.{Counter}
use Rattle.pos_counter.specs.Counters.{IsCounterSound, Stays}
use Rattle.pos_counter.specs.HostTallies.{LeavesHostAlone}
use Rattle.pos_counter.specs.Hosts.{progress_in}
use Rattle.pos_script.specs.Lines.{lines_of}
use Rattle.pos_streams.specs.Streams.{Given, given_with}
use Rattle.pos_streams.specs.Transfers.{given_to}
use Rattle.pos_run.specs.Transcript.{Session}
use Rattle.pos_run.specs.Spares.{AreSparesSound}
use Rattle.pos_run.specs.WaitingLines.{IsOneLine, LinesLeave}
use Rattle.pos_run.specs.declared.waiting_lines.LineProgress.{LineProgress}
use Rattle.pos_run.specs.declared.waiting_lines.LineProgress.TheVariants.{Printed}
use Rattle.pos_streams.specs.declared.sink.WriteFault.{WriteFault}
use Rattle.kijolvar.specs.declared.device.Device.{Device}
use Rattle.kijolvar.specs.declared.till_state.TillState.{TillState}
use Rattle.kijolvar.specs.TillDisks.{HostedDisk}
use Rattle.kijolvar.specs.Tills.{session_in}

-- so many bytes of a text are one line of it, and the others have the others
pub record SplitsOff (text : List ℕ) (count : ℕ) : Type 0 where
  pub line : List ℕ
  pub one : lines_of (take count text) ≡ line ∷ []
  pub lines : lines_of text ≡ line ∷ lines_of (drop count text)

-- these behind the first of those
abbrev pub behind_first : {A : Type 0} → List A → List A → List A
behind_first these [] = these
behind_first these (first ∷ those) = first ∷ these ++ those

-- Each text is one line.
pub record AreHeld (texts : List (Vec ℕ Global)) : Type 0 where
  pub each : All IsOneLine texts

-- What is true of every till: its counter and its spares are sound, and each text that is held is one line.
pub record IsTillSound (peripherals : Ghosts Device) (till : TillState) : Type 0 where
  pub counter : IsCounterSound peripherals till.counter
  pub spares : AreSparesSound peripherals till.spares
  pub held : AreHeld till.held.items

-- the answer to earlier lines is forgotten, and nothing else changes
pub record BeginsAnswer (old new : TillState) : Type 0 where
  pub stays : new ≡ record old { told = false; answer = new.answer }
  pub answer : given_to new.answer ≡ given_with [] (given_to old.answer).faults

-- no line is held, and no order is pending; the host was given none, and no report was taken
pub record DropsHeld (hosts : Device → Course) (peripherals : Ghosts Device) (old new : TillState) : Type 0 where
  pub stays : new ≡ record old { counter = new.counter; held = new.held; left = Printed }
  pub counter : Stays peripherals old.counter new.counter
  pub tally : LeavesHostAlone old.counter.tally new.counter.tally
  pub ready : progress_in hosts new.counter ≡ progress.Ready
  pub held : new.held.items ≡ []

-- How lines ended is noted. Where memory ran out for what one prints, none is held any more.
pub record EndsLines (went : Result LineProgress WriteFault) (old new : TillState) : Type 0 where
  pub stays : new ≡ record old { outcome = new.outcome; held = new.held; left = new.left }
  pub ends : MatchResult went (λ left. (new.outcome ≡ Ok tt) × (new.left ≡ left) × (new.held ≡ old.held))
      (λ fault. (new.outcome ≡ Err fault) × (new.left ≡ Printed) × (new.held.items ≡ []))

-- Lines go on from a counter and a session. From the front on they are carried out, once each, and their text is added
-- to the answer; the others are held. Where memory ran out for what a line prints, that line is the last, and none is
-- held.
pub record GoesOn (bound : DiskGhosts HostedDisk) (hosts : Device → Course) (peripherals : Ghosts Device)
    (counter : Counter HostedDisk Device) (session : Session) (before : Given) (lines : List (Vec ℕ Global))
    (new : TillState) : Type 0 where
  pub ends : MatchResult new.outcome
      (λ u. LinesLeave bound peripherals hosts counter session lines new.held.items before (given_to new.answer)
      (Ok new.left) new.counter (session_in peripherals new))
      (λ fault. (later : List (Vec ℕ Global)) × LinesLeave bound peripherals hosts counter session lines later before
      (given_to new.answer) (Err fault) new.counter (session_in peripherals new)
      × (new.held.items ≡ []) × (new.left ≡ Printed))
