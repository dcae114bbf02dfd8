-- What contracts see of a simulated line display whose rows are a ring.
use Rattle.pos_service.specs.Peripherals.{PeripheralState}
use Rattle.pos_sims.specs.declared.screen_display.ScreenDisplay.{ScreenDisplay}
use Rattle.pos_sims.specs.declared.ring.Ring.{Ring}
use Rattle.pos_sims.specs.declared.screen.Screen.{Ghosts}
use Rattle.pos_sims.specs.ScreenDisplays.{state_on}
use Rattle.pos_sims.specs.Rings.{shown_on}

-- what a ring shows
abbrev pub rings : Ghosts Ring
rings = record { shown = λ ring. shown_on ring }

-- what contracts see of a ring display
abbrev pub state_of : ScreenDisplay Ring → PeripheralState
state_of display = state_on rings display
