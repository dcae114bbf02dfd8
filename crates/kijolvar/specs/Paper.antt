-- What a host is told that takes a device's printed paper away, and what that does.
use Rattle.std.specs.Prelude.{◌≡◌, ℕ, Bool, true, false, List, Result, Ok, Err}
use Rattle.pos_drive.specs.declared.courses.Course.{Course}
use Rattle.pos_service.specs.declared.faults.NoMemory.{NoMemory}
use Rattle.pos_service.specs.declared.peripheral.Peripheral.{Ghosts}
use Rattle.pos_counter.specs.Hosts.{hosts_in}
use Rattle.pos_counter.specs.Paper.{TearsOff as CounterTears}
use Rattle.kijolvar.specs.Codes.{no_device, no_memory, ok}
use Rattle.kijolvar.specs.declared.device.Device.{Device}
use Rattle.kijolvar.specs.declared.till_state.TillState.{TillState}

-- the code by whether there was such a device, and whether there was memory
abbrev pub torn_code : Result Bool NoMemory → ℕ
torn_code (Ok true) = ok
torn_code (Ok false) = no_device
torn_code (Err want) = no_memory

-- The printed paper of the device of this name is taken away, if there is one and there was memory. Nothing else
-- changes.
pub record TearsOff (hosts : Device → Course) (peripherals : Ghosts Device) (old : TillState) (name : List ℕ) (code : ℕ)
    (new : TillState) : Type 0 where
  pub outcome : Result Bool NoMemory
  pub code_told : code ≡ torn_code outcome
  pub counter : CounterTears peripherals name old.counter outcome new.counter
  pub courses : hosts_in hosts new.counter ≡ hosts_in hosts old.counter
  pub stays : new ≡ record old { counter = new.counter }
