-- The controls of a till by their numbers, and which of them has an event to deliver (abi/README.md, "Events").
use Rattle.std.specs.Prelude.{◌≡◌, ◌⊎◌, ℕ, Option, Some, None}
use Rattle.pos_service.specs.declared.peripheral.Peripheral.{Ghosts}
use Rattle.pos_counter.specs.Counters.{machine}
use Rattle.pos_counter.specs.NextEvent.{IsNextEvent}
use Rattle.pos_counter.specs.Totals.{TotalsPart}
use Rattle.kijolvar.specs.declared.device.Device.{Device}
use Rattle.kijolvar.specs.declared.till_state.TillState.{TillState}
use Rattle.kijolvar.specs.declared.till_disk.Settlement.{Settlement}
use Rattle.kijolvar.specs.declared.till_disk.Settlement.TheVariants.{InMemory, Settled, Owed, Failed}
use Rattle.kijolvar.specs.Codes.{disk_failed, errands_left, event_there, no_control, ok}
use Rattle.kijolvar.specs.TillDisks.{IsInFile}
use Rattle.kijolvar.specs.Tills.{disk_of, settlement_of}

-- the number of a control is written, or nothing where there is none, and the code says which
abbrev pub FindsNumber : Option ℕ → (before after code : ℕ) → Type 0
FindsNumber None before after code = (code ≡ no_control) × (after ≡ before)
FindsNumber (Some number) before after code = (code ≡ ok) × (after ≡ number)

-- the number of a control that has an event is written, or nothing where there is none, and the code says which
abbrev pub WritesEvent : Option ℕ → (before after code : ℕ) → Type 0
WritesEvent None before after code = (code ≡ ok) × (after ≡ before)
WritesEvent (Some number) before after code = (code ≡ event_there) × (after ≡ number)

-- the control that is written is the first, from a number on, to which a delivery gives an event; where nothing is
-- written, a delivery to none gives one
abbrev pub SaysEvent : Ghosts Device → (till : TillState) (from before after code : ℕ) → Type 0
SaysEvent peripherals till from before after code = (part : TotalsPart) →
    ((code ≡ event_there) × IsNextEvent (machine peripherals till.counter part) from (Some after))
    ⊎ ((code ≡ ok) × (after ≡ before) × IsNextEvent (machine peripherals till.counter part) from None)

-- what a host that asks for the next event is told, by how it stands to the disk: the control, and its file equals the
-- totals' disk; or nothing while errands are left or one failed
abbrev pub NextEventBy : Settlement → Ghosts Device → (till : TillState) (from before after code : ℕ) → Type 0
NextEventBy InMemory peripherals till from before after code = SaysEvent peripherals till from before after code
NextEventBy Settled peripherals till from before after code =
    IsInFile (disk_of till) × SaysEvent peripherals till from before after code
NextEventBy Owed peripherals till from before after code = (code ≡ errands_left) × (after ≡ before)
NextEventBy Failed peripherals till from before after code = (code ≡ disk_failed) × (after ≡ before)

abbrev pub NextEvent : Ghosts Device → (till : TillState) (from before after code : ℕ) → Type 0
NextEvent peripherals till = NextEventBy (settlement_of till) peripherals till
