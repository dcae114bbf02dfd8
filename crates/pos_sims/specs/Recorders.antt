-- What contracts see of a peripheral whose orders are counted.
use Rattle.pos_service.specs.declared.peripheral.Peripheral.{Ghosts}
use Rattle.pos_service.specs.Peripherals.{PeripheralState}
use Rattle.pos_sims.specs.declared.recorder.Recorder.{Recorder}

-- a recorder of this peripheral that has counted nothing
abbrev pub recorder_of : {P : Type 0} → P → Recorder P
recorder_of inner = record { inner = inner; asks = 0 }

-- what contracts see of a recorder: the peripheral within, with the count of the orders that came by the recorder
abbrev pub state_of : {P : Type 0} → Ghosts P → Recorder P → PeripheralState
state_of peripherals recorder = record (peripherals.state recorder.inner) { orders = recorder.asks }
