-- What contracts see of a peripheral with a flaky line.
use Rattle.std.specs.Prelude.{◌≡◌, ℕ, ◌+◌, ◌-◌, ◌^◌, ◌&&◌, Bool, min, nat_le, nat_lt, Result, Ok}
use Rattle.pos_service.specs.declared.faults.NoMemory.{NoMemory}
use Rattle.pos_service.specs.declared.order.Reply.{Reply}
use Rattle.pos_service.specs.declared.order.Reply.TheVariants as reply
use Rattle.pos_service.specs.declared.peripheral.Peripheral.{Ghosts}
use Rattle.pos_service.specs.Peripherals.{PeripheralState, counted}
use Rattle.pos_sims.specs.declared.flaky.Flaky.{Flaky}

-- a flaky line to this peripheral, over which no order went so far
abbrev pub flaky_of : {P : Type 0} → P → ℕ → ℕ → Flaky P
flaky_of inner first times = record { inner = inner; first = first; times = times; orders = 0; faults = 0 }

-- what contracts see of a peripheral with a flaky line: the one within, whose line has also failed so often by itself
abbrev pub state_of : {P : Type 0} → Ghosts P → Flaky P → PeripheralState
state_of peripherals flaky = record (peripherals.state flaky.inner) {
  failures = min ((peripherals.state flaky.inner).failures + flaky.faults) (2 ^ 64 - 1);
  orders = flaky.orders;
}

-- Does the line fail at the next order? The orders are numbered from 1.
abbrev pub fails_next : {P : Type 0} → Flaky P → Bool
fails_next flaky =
    let number = counted flaky.orders in
    nat_le flaky.first number && nat_lt number (flaky.first + flaky.times)

-- one more order, and by which numbers the line fails is as it was
pub record CountsOrder {P : Type 0} (old new : Flaky P) : Type 0 where
  pub orders : new.orders ≡ counted old.orders
  pub first : new.first ≡ old.first
  pub times : new.times ≡ old.times

-- by which numbers the line fails, and both counts, are as they were
pub record KeepsSchedule {P : Type 0} (old new : Flaky P) : Type 0 where
  pub first : new.first ≡ old.first
  pub times : new.times ≡ old.times
  pub orders : new.orders ≡ old.orders
  pub faults : new.faults ≡ old.faults

-- The line fails, and the peripheral within is not asked.
pub record Fails {P : Type 0} (old : Flaky P) (outcome : Result Reply NoMemory) (new : Flaky P) : Type 0 where
  pub fault : outcome ≡ Ok reply.LineFault
  pub faults : new.faults ≡ counted old.faults
  pub untouched : new.inner ≡ old.inner
