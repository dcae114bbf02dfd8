-- What contracts see of a simulated scanner.
use Rattle.std.specs.Prelude.{ℕ, Bool, true}
use Rattle.pos_service.specs.declared.kind.Kind.TheVariants as kind
use Rattle.pos_service.specs.declared.plant.Mechanism.TheVariants as mechanism
use Rattle.pos_service.specs.Peripherals.{PeripheralState}
use Rattle.pos_sims.specs.Powers.{switched}
use Rattle.pos_sims.specs.declared.plain_scanner.PlainScanner.{PlainScanner}

-- a scanner that is on, out of service or not, and that was given so many orders, at each of which its line failed
abbrev pub scanner_state : Bool → ℕ → PeripheralState
scanner_state is_parked orders = record {
  kind = kind.Scanner;
  plant = record { powered = true; mechanism = mechanism.Scanner };
  is_parked = is_parked;
  failures = orders;
  orders = orders;
}

-- what contracts see of a plain scanner
abbrev pub state_of : PlainScanner → PeripheralState
state_of scanner = switched scanner.powered (scanner_state scanner.is_parked scanner.orders)
