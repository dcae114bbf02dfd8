-- What devices do with the bytes of an order.
use Rattle.std.specs.Prelude.{◌≡◌, ℕ, Bool, true, false, List, [], ◌∷◌, ◌++◌, ◌⊎◌}
use Rattle.pos_service.specs.declared.order.Order.{Order}
use Rattle.pos_service.specs.declared.order.Reply.TheVariants as reply
use Rattle.pos_service.specs.declared.plant.Mechanism.{Mechanism}
use Rattle.pos_service.specs.declared.plant.Mechanism.TheVariants as mechanism
use Rattle.pos_service.specs.declared.plant.Plant.{Plant}
use Rattle.pos_service.specs.Displays.{Display, blank_display}
use Rattle.pos_service.specs.Peripherals.{PeripheralState, Performs, switched_on}
use Rattle.pos_service.specs.Receipts.{printed_by}
use Rattle.pos_sims.specs.Additions.{pieces_ordered}
use Rattle.pos_escpos.specs.DisplayBytes.{can_become, characters_of, display_start, make_of, rows_bytes}
use Rattle.pos_escpos.specs.PrinterBytes.{all_fit, all_on_paper, items_bytes}
use Rattle.pos_escpos.specs.PrinterCommands.{kick_command, kick_pulse}
use Rattle.pos_escpos.specs.Screens.{IsShowing, Screen, ShowsOnly, screen_after}
use Rattle.pos_wire.specs.declared.frames.JobEnd.{JobEnd}
use Rattle.pos_wire.specs.declared.settings.WireSettings.{WireSettings}
use Rattle.pos_wire.specs.Frames.{AllDo, asked_first, asked_last, framed_bytes}
use Rattle.pos_wire.specs.Settings.{cut_of, kick_of, protocol_of}

-- a display that is on and shows this
abbrev pub lit : Display → Plant
lit shown = switched_on (mechanism.Display shown)

-- a display whose connection is new may show anything, but has begun no command; else it shows the cells
abbrev pub IsScreen : Bool → Display → Screen → Type 0
IsScreen true old screen = screen.begun ≡ []
IsScreen false old screen = IsShowing (characters_of old.cells) screen

-- any display of this size shows the new cells after the bytes, and knows each command
abbrev pub AllShow : WireSettings → Bool → Display → Display → List ℕ → Type 0
AllShow settings is_new old new bytes = (screen : Screen) → IsScreen is_new old screen →
    ShowsOnly screen (characters_of new.cells) (screen_after (make_of (protocol_of settings) new) screen bytes)

-- What a device does with the bytes, where the order takes the old mechanism to the new one: a drawer's printer gives
-- one pulse, a printer prints the items that the order adds, and a display shows the new cells.
abbrev pub Sends : WireSettings → Bool → JobEnd → Order → Mechanism → Mechanism → List ℕ → Type 0
Sends settings is_new end asked (mechanism.Drawer was) (mechanism.Drawer is) bytes = (width : ℕ) →
    AllDo is_new width [] (kick_pulse (kick_of settings) ∷ []) (asked_first is_new ++ asked_last end) bytes
Sends settings is_new end asked (mechanism.Printer old) (mechanism.Printer new) bytes =
    AllDo is_new settings.width
    (all_on_paper (cut_of settings) (printed_by old.chars old.buffer (pieces_ordered asked)).items)
    [] (asked_first is_new ++ asked_last end) bytes
Sends settings is_new end asked (mechanism.Display old) (mechanism.Display new) bytes =
    AllShow settings is_new old new bytes
Sends settings is_new end asked old new bytes = ⊥

-- what a display is known to show before the bytes: blanks where the connection is new
abbrev pub known_before : Bool → Display → Display → Display
known_before true old new = blank_display new.rows new.columns
known_before false old new = old

-- the bytes that come before those of rows: the start, if the connection is new
abbrev pub bytes_before_rows : Bool → List ℕ
bytes_before_rows true = display_start
bytes_before_rows false = []

-- the bytes by which a display shows the new cells: behind a start, the rows that it isn't known to show
abbrev pub shown_bytes : WireSettings → Bool → Display → Display → List ℕ
shown_bytes settings is_new old new = bytes_before_rows is_new
    ++ rows_bytes (protocol_of settings) new.columns 1 new.rows (known_before is_new old new).cells new.cells

-- The bytes of an order that takes the old mechanism to the new one: for a drawer those of one pulse, for a printer
-- those of the items that the order adds, both with what is around them, and for a display those of the new cells.
abbrev pub bytes_of : WireSettings → Bool → JobEnd → Order → Mechanism → Mechanism → List ℕ
bytes_of settings is_new end asked (mechanism.Drawer was) (mechanism.Drawer is) =
    framed_bytes is_new end (kick_command (kick_of settings))
bytes_of settings is_new end asked (mechanism.Printer old) (mechanism.Printer new) =
    framed_bytes is_new end
    (items_bytes (cut_of settings) (printed_by old.chars old.buffer (pieces_ordered asked)).items)
bytes_of settings is_new end asked (mechanism.Display old) (mechanism.Display new) =
    shown_bytes settings is_new old new
bytes_of settings is_new end asked old new = []

-- The machine carries the order out, the device does the same with the bytes, and they are the order's bytes, all of
-- them and no others.
pub record SendsOrder (settings : WireSettings) (is_new : Bool) (end : JobEnd) (state : PeripheralState) (asked : Order)
    (bytes : List ℕ) : Type 0 where
  pub new : Plant
  pub done : Performs asked state.plant reply.Done new
  pub sends : Sends settings is_new end asked state.plant.mechanism new.mechanism bytes
  pub exact : bytes ≡ bytes_of settings is_new end asked state.plant.mechanism new.mechanism

-- what an order leaves has bytes: a printer's new lines fit it, and a display's cells are characters
abbrev pub has_bytes : Bool → Order → Mechanism → Mechanism → Bool
has_bytes is_new asked (mechanism.Printer old) (mechanism.Printer new) =
    all_fit old.chars (printed_by old.chars old.buffer (pieces_ordered asked)).items
has_bytes is_new asked (mechanism.Display old) (mechanism.Display new) = can_become (known_before is_new old new) new
has_bytes is_new asked old new = true

-- The machine doesn't carry the order out, or what it leaves has no bytes.
abbrev pub HasNoBytes : Bool → PeripheralState → Order → Type 0
HasNoBytes is_new state asked =
    ((new : Plant) → Performs asked state.plant reply.Done new → ⊥)
    ⊎ ((new : Plant) × Performs asked state.plant reply.Done new
    × (has_bytes is_new asked state.plant.mechanism new.mechanism ≡ false))
