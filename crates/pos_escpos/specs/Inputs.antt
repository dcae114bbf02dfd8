-- What a printer's status is for the device machine.
use Rattle.std.specs.Prelude.{◌≡◌, ℕ, Bool, true, false, List, [], ◌∷◌, ◌==◌, if◌then◌else◌, Option, Some, None}
use Rattle.std.specs.Prelude.{unwrap_or}
use Rattle.pos_service.specs.declared.input.Input.{Input}
use Rattle.pos_service.specs.declared.input.Input.TheVariants as input
use Rattle.pos_service.specs.declared.input.Taken.TheVariants as taken
use Rattle.pos_service.specs.declared.plant.Plant.{Plant}
use Rattle.pos_service.specs.declared.signs.PaperLevel.{PaperLevel}
use Rattle.pos_service.specs.declared.signs.PaperLevel.TheVariants as paper
use Rattle.pos_service.specs.declared.signs.Signs.{Signs}
use Rattle.pos_service.specs.Peripherals.{Takes}
use Rattle.pos_escpos.specs.declared.settings.SensorSettings.{SensorSettings}
use Rattle.pos_escpos.specs.declared.statuses.Status.{Status}

-- a printer that answers is on
abbrev pub power_input : Bool → Option Input
power_input true = None
power_input false = Some (input.PowerMoved true)

-- an input where a sensor tells another thing than the device shows
abbrev pub moved_input : (Bool → Input) → Bool → Option Bool → Option Input
moved_input moved shown None = None
moved_input moved true (Some true) = None
moved_input moved true (Some false) = Some (moved false)
moved_input moved false (Some true) = Some (moved true)
moved_input moved false (Some false) = None

-- the level that a device shows at what its sensor tells: one whose paper is near its end at no line shows it as good
abbrev pub level_shown : ℕ → PaperLevel → PaperLevel
level_shown near paper.Good = paper.Good
level_shown near paper.NearEnd = if near == 0 then paper.Good else paper.NearEnd
level_shown near paper.Empty = paper.Empty

-- the lines of paper for a level
abbrev pub lines_for : SensorSettings → PaperLevel → ℕ
lines_for sensors paper.Good = sensors.lines
lines_for sensors paper.NearEnd = sensors.near
lines_for sensors paper.Empty = 0

-- paper is loaded where a device shows another level than it has to; else it goes on counting lines
abbrev pub level_input : SensorSettings → PaperLevel → PaperLevel → Option Input
level_input sensors paper.Good paper.Good = None
level_input sensors paper.NearEnd paper.NearEnd = None
level_input sensors paper.Empty paper.Empty = None
level_input sensors shown level = Some (input.PaperLoaded (lines_for sensors level))

-- the same where a sensor may tell nothing
abbrev pub paper_input : SensorSettings → PaperLevel → Option PaperLevel → Option Input
paper_input sensors shown None = None
paper_input sensors shown (Some level) = level_input sensors shown (level_shown sensors.near level)

-- the inputs for the printer: power, cover, paper
abbrev pub printer_table : SensorSettings → Signs → Status → List (Option Input)
printer_table sensors signs status =
    power_input signs.powered
    ∷ moved_input input.CoverMoved signs.cover_open status.is_cover_open
    ∷ paper_input sensors signs.paper status.paper
    ∷ []

-- whether a drawer is open at a level of its pin
abbrev pub is_open_at : Bool → Bool → Bool
is_open_at true is_high = is_high
is_open_at false true = false
is_open_at false false = true

-- the same where a sensor may tell nothing
abbrev pub open_told : SensorSettings → Option Bool → Option Bool
open_told sensors None = None
open_told sensors (Some is_high) = Some (is_open_at sensors.is_open_high is_high)

-- the inputs for the drawer: power, and whether it is open
abbrev pub drawer_table : SensorSettings → Signs → Status → List (Option Input)
drawer_table sensors signs status =
    power_input signs.powered
    ∷ moved_input input.DrawerMoved signs.drawer_open (open_told sensors status.is_pin_high)
    ∷ []

-- From the old plant an input, if there is one, is taken quietly and leaves the new plant.
abbrev pub TakesMaybe : Option Input → Plant → Plant → Type 0
TakesMaybe None old new = new ≡ old
TakesMaybe (Some given) old new = Takes given old taken.Quiet new

-- the same of inputs in order
abbrev pub TakesAll : List (Option Input) → Plant → Plant → Type 0
TakesAll [] old new = new ≡ old
TakesAll (given ∷ more) old new = (between : Plant) × TakesMaybe given old between × TakesAll more between new

-- the level that a device shows, where a sensor may tell nothing
abbrev pub level_after : ℕ → PaperLevel → Option PaperLevel → PaperLevel
level_after near shown None = shown
level_after near shown (Some level) = level_shown near level

-- the signs of a printer that are as its sensors tell
abbrev pub printer_signs_after : SensorSettings → Signs → Status → Signs
printer_signs_after sensors signs status = record signs {
  powered = true;
  cover_open = unwrap_or status.is_cover_open signs.cover_open;
  paper = level_after sensors.near signs.paper status.paper;
}

-- the signs of a drawer that are as its sensor tells
abbrev pub drawer_signs_after : SensorSettings → Signs → Status → Signs
drawer_signs_after sensors signs status = record signs {
  powered = true;
  drawer_open = unwrap_or (open_told sensors status.is_pin_high) signs.drawer_open;
}
