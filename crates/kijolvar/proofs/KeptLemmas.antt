-- What a till's host is told next, and that a till stays sound.
use Rattle.kijolvar.proofs.Common.{TillState, List, subst, sym, ℕ}
use Rattle.pos_service.specs.declared.peripheral.Peripheral.{Ghosts}
use Rattle.pos_counter.specs.declared.counter.Counter.{Counter}
use Rattle.pos_counter.specs.Counters.{IsCounterSound}
use Rattle.kijolvar.specs.HeldLines.{IsTillSound}
use Rattle.kijolvar.specs.TillDisks.{HostedDisk}
use Rattle.kijolvar.specs.Tills.{AnswersNextErrandBy, disk_of, with_disk}
use Rattle.kijolvar.specs.declared.device.Device.{Device}
use Rattle.kijolvar.specs.declared.till_disk.Settlement.{Settlement}
use Rattle.kijolvar.specs.declared.till_disk.Settlement.TheVariants.{Failed, InMemory, Owed, Settled}

-- a counter over another disk is as sound
pub sound_over : {peripherals : Ghosts Device} {counter : Counter HostedDisk Device} (disk : HostedDisk)
    → IsCounterSound peripherals counter → IsCounterSound peripherals (with_disk counter disk)
sound_over disk is = record { machine = is.machine; devices = is.devices }

-- whatever a host is told of an errand, the till is as sound
pub next_keeps : (settlement : Settlement) (peripherals : Ghosts Device) {old : TillState} (at_before at : ℕ)
    (before after : List ℕ) (needed_before needed code : ℕ) {new : TillState}
    → AnswersNextErrandBy settlement old at_before at before after needed_before needed code new
    → IsTillSound peripherals old → IsTillSound peripherals new
next_keeps InMemory peripherals at_before at before after needed_before needed code told sound =
    subst (IsTillSound peripherals) (sym told.stays) sound
next_keeps Settled peripherals at_before at before after needed_before needed code (in_file, told) sound =
    subst (IsTillSound peripherals) (sym told.stays) sound
next_keeps Owed peripherals at_before at before after needed_before needed code {new} told sound =
    subst (IsTillSound peripherals) (sym told.stays) (record {
      counter = sound_over (disk_of new) sound.counter;
      spares = sound.spares;
      held = sound.held;
    })
next_keeps Failed peripherals at_before at before after needed_before needed code told sound =
    subst (IsTillSound peripherals) (sym told.stays) sound
