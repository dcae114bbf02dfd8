-- What contracts see of a simulated receipt printer.
use Rattle.std.specs.Prelude.{ℕ, Bool, true}
use Rattle.pos_service.specs.declared.kind.Kind.TheVariants as kind
use Rattle.pos_service.specs.declared.plant.Mechanism.TheVariants as mechanism
use Rattle.pos_service.specs.Receipts.{Printer}
use Rattle.pos_service.specs.Peripherals.{PeripheralState}
use Rattle.pos_sims.specs.Powers.{switched}
use Rattle.pos_sims.specs.declared.roll_printer.RollPrinter.{RollPrinter}

-- a printer that is on, with this paper, which is near its end at so many lines, out of service or not, whose line
-- never fails, and that was given no order
abbrev pub printer_state : Printer → ℕ → Bool → PeripheralState
printer_state printed near is_parked = record {
  kind = kind.Printer printed.chars near;
  plant = record { powered = true; mechanism = mechanism.Printer printed };
  is_parked = is_parked;
  failures = 0;
  orders = 0;
}

-- what contracts see of a roll printer
abbrev pub state_of : RollPrinter → PeripheralState
state_of printer = switched printer.powered
    (record (printer_state printer.roll printer.near printer.is_parked) { orders = printer.orders })
