-- The spares of a script: peripherals that no device has (docs/reference/console.md, "Lines").
use Rattle.std.specs.Prelude.{◌≡◌, ℕ, zero, suc, false, List, Option, Some, None, IfSome, All, map, option_map}
use Rattle.std.specs.Prelude.{option_and_then, slice_get, slice_set}
use Rattle.pos_service.specs.declared.peripheral.Peripheral.{Ghosts}
use Rattle.pos_service.specs.Peripherals.{PeripheralState}
use Rattle.pos_run.specs.declared.spares.Spares.{Spares}

-- the spares in the order of their numbers, with an empty place for one that was attached
abbrev pub SpareStates : Type 0
SpareStates = List (Option PeripheralState)

-- the spare of a number, counted from 1, if it is there
abbrev pub spare_at : SpareStates → ℕ → Option PeripheralState
spare_at spares zero = None
spare_at spares (suc place) = option_and_then (λ spare. spare) (slice_get spares place)

-- the spares, with this at the place of a number
abbrev pub with_spare : SpareStates → ℕ → Option PeripheralState → SpareStates
with_spare spares zero spare = spares
with_spare spares (suc place) spare = slice_set spares place spare

-- the place of a number is empty
abbrev pub IsEmptyAt : SpareStates → ℕ → Type 0
IsEmptyAt spares number = (place : ℕ) × (number ≡ suc place) × (slice_get spares place ≡ Some None)

-- what peripherals are, each of which may be there or not
abbrev pub states_in : {P : Type 0} → Ghosts P → List (Option P) → SpareStates
states_in peripherals list = map (option_map peripherals.state) list

-- what the spares are
abbrev pub spares_in : {P : Type 0} → Ghosts P → Spares P → SpareStates
spares_in peripherals spares = states_in peripherals spares.peripherals.items

-- a spare that is there is in service
abbrev pub IsInService : Option PeripheralState → Type 0
IsInService spare = IfSome spare (λ state. state.is_parked ≡ false)

-- What is true of all spares: each that is there is in service.
pub record AreSparesSound {P : Type 0} (peripherals : Ghosts P) (spares : Spares P) : Type 0 where
  pub in_service : All IsInService (spares_in peripherals spares)
