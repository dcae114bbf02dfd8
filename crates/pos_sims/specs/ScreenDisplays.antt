-- What contracts see of a simulated line display.
use Rattle.std.specs.Prelude.{Bool, true}
use Rattle.pos_service.specs.declared.kind.Kind.TheVariants as kind
use Rattle.pos_service.specs.declared.plant.Mechanism.TheVariants as mechanism
use Rattle.pos_service.specs.Displays.{Display}
use Rattle.pos_service.specs.Peripherals.{PeripheralState}
use Rattle.pos_sims.specs.Powers.{switched}
use Rattle.pos_sims.specs.declared.screen_display.ScreenDisplay.{ScreenDisplay}
use Rattle.pos_sims.specs.declared.screen.Screen.{Ghosts}

-- a display that is on and shows this, out of service or not, whose line never fails, and that was given no order
abbrev pub display_state : Display → Bool → PeripheralState
display_state shown is_parked = record {
  kind = kind.Display shown.rows shown.columns;
  plant = record { powered = true; mechanism = mechanism.Display shown };
  is_parked = is_parked;
  failures = 0;
  orders = 0;
}

-- what contracts see of a display over any window
abbrev pub state_on : {S : Type 0} → Ghosts S → ScreenDisplay S → PeripheralState
state_on screens display = switched display.powered
    (record (display_state (screens.shown display.screen) display.is_parked) { orders = display.orders })

-- what a window whose cells stand row by row shows
abbrev pub windows : Ghosts Display
windows = record { shown = λ shown. shown }

-- what contracts see of a plain display
abbrev pub state_of : ScreenDisplay Display → PeripheralState
state_of display = state_on windows display
