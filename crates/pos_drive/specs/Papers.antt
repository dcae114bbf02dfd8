-- The paper that a peripheral has printed, and its taking away.
use Rattle.std.specs.Prelude.{◌≡◌, [], MatchResult, Result}
use Rattle.pos_service.specs.declared.faults.NoMemory.{NoMemory}
use Rattle.pos_service.specs.declared.plant.Mechanism.{Mechanism}
use Rattle.pos_service.specs.declared.plant.Mechanism.TheVariants as mechanism
use Rattle.pos_service.specs.declared.plant.Plant.{Plant}
use Rattle.pos_service.specs.Peripherals.{PeripheralState}

-- a printer has no lines and no cuts any more, only the line that has begun
abbrev pub torn_mechanism : Mechanism → Mechanism
torn_mechanism (mechanism.Drawer is_open) = mechanism.Drawer is_open
torn_mechanism mechanism.Scanner = mechanism.Scanner
torn_mechanism (mechanism.Display shown) = mechanism.Display shown
torn_mechanism (mechanism.Printer printer) = mechanism.Printer (record printer { items = [] })

abbrev pub torn_plant : Plant → Plant
torn_plant plant = record plant { mechanism = torn_mechanism plant.mechanism }

-- a peripheral whose printed paper was taken away, and else as it was
abbrev pub torn_state : PeripheralState → PeripheralState
torn_state state = record state { plant = torn_plant state.plant }

-- The printed paper is taken away, or there is no memory and nothing has changed.
abbrev pub TearsOff : PeripheralState → Result (Unit {0}) NoMemory → PeripheralState → Type 0
TearsOff old outcome new = MatchResult outcome (λ done. new ≡ torn_state old) (λ want. new ≡ old)
