-- Which control a host is told that has the next event.
use Rattle.std.proofs.Common.{None, Option, Some, inl, inr, ℕ, ◌≡◌, ◌⊎◌}
use Rattle.pos_counter.specs.Counters.{machine}
use Rattle.pos_counter.specs.NextEvent.{IsNextEvent}
use Rattle.pos_counter.specs.Totals.{TotalsPart}
use Rattle.pos_service.specs.declared.peripheral.Peripheral.{Ghosts}
use Rattle.kijolvar.specs.Controls.{NextEvent, SaysEvent, WritesEvent}
use Rattle.kijolvar.specs.declared.device.Device.{Device}
use Rattle.kijolvar.specs.declared.till_state.TillState.{TillState}
use Rattle.kijolvar.specs.declared.till_disk.Settlement.{Settlement}
use Rattle.kijolvar.specs.declared.till_disk.Settlement.TheVariants.{InMemory, Settled}
use Rattle.kijolvar.specs.TillDisks.{IsInFile}
use Rattle.kijolvar.specs.Tills.{disk_of, settlement_of}

-- what is written of the control that was found says which has the next event
says : (peripherals : Ghosts Device) (till : TillState) {from before after code : ℕ} (found : Option ℕ)
    → ((part : TotalsPart) → IsNextEvent (machine peripherals till.counter part) from found)
    → WritesEvent found before after code → SaysEvent peripherals till from before after code
says peripherals till None next written part = inr (written.0, written.1, next part)
says peripherals till (Some number) next written part = inl (written.0, rw written.1 (next part))

-- and so it does for a till in memory, and for one whose errands are done
pub says_settled : (peripherals : Ghosts Device) (till : TillState) (from before after code : ℕ) (found : Option ℕ)
    {settlement : Settlement} → (settlement ≡ InMemory) ⊎ (settlement ≡ Settled) → settlement ≡ settlement_of till
    → (settlement ≡ Settled → IsInFile (disk_of till))
    → ((part : TotalsPart) → IsNextEvent (machine peripherals till.counter part) from found)
    → WritesEvent found before after code → NextEvent peripherals till from before after code
says_settled peripherals till from before after code found (inl in_memory) is in_file next written =
    rw (← is, in_memory) (says peripherals till found next written)
says_settled peripherals till from before after code found (inr settled) is in_file next written =
    rw (← is, settled) (in_file settled, says peripherals till found next written)
