-- The printed paper of a counter's device is taken away.
use Rattle.std.specs.Bool.{MatchBool}
use Rattle.std.specs.Prelude.{◌≡◌, List, ℕ, Bool, None, MatchResult, Result}
use Rattle.pos_drive.specs.Papers.{torn_plant}
use Rattle.pos_service.specs.declared.faults.NoMemory.{NoMemory}
use Rattle.pos_service.specs.declared.peripheral.Peripheral.{Ghosts}
use Rattle.pos_service.specs.Hardware.{Effect}
use Rattle.pos_counter.specs.Counters.{Stays, machine}
use Rattle.pos_counter.specs.KeptDevices.{devices_in}
use Rattle.pos_counter.specs.Machine.{device_at, hardware_in, place_of}
use Rattle.pos_counter.specs.Steps.{OnHardware}
use Rattle.pos_counter.specs.Totals.{TotalsPart}
use Rattle.pos_counter.specs.declared.counter.Counter.{Counter}

-- A device's printed paper is taken away. Its controls see nothing of it.
abbrev pub IsTorn : Effect
IsTorn old before new after = (new ≡ old) × (after ≡ record before { plant = torn_plant before.plant })

-- The printed paper of the first device of a name is taken away, and nothing else changes.
pub record TearsAt {D P : Type 0} (peripherals : Ghosts P) (name : List ℕ) (old new : Counter D P) : Type 0 where
  pub machine : (part : TotalsPart) → OnHardware (machine peripherals old part)
      (place_of (devices_in peripherals old.devices) name) (λ place. IsTorn) (machine peripherals new part)
  pub totals : new.totals ≡ old.totals
  pub tally : new.tally ≡ old.tally

-- No device has the name, or nothing serves it, and nothing has changed.
pub record FindsNone {D P : Type 0} (peripherals : Ghosts P) (name : List ℕ) (old new : Counter D P) : Type 0 where
  pub none : hardware_in (device_at (devices_in peripherals old.devices)
      (place_of (devices_in peripherals old.devices) name)) ≡ None
  pub same : new ≡ old

-- The printed paper of the first device of a name is taken away, if there is one, or there was no memory.
abbrev pub TearsOff : {D P : Type 0} → Ghosts P → List ℕ → Counter D P → Result Bool NoMemory → Counter D P → Type 0
TearsOff peripherals name old outcome new = MatchResult outcome
    (λ found. MatchBool found (TearsAt peripherals name old new) (FindsNone peripherals name old new))
    (λ want. Stays peripherals old new × (new.tally ≡ old.tally))
