-- What contracts see of a peripheral, and what its calls do.
use Rattle.std.specs.Prelude.{◌≡◌, ℕ, ◌+◌, ◌-◌, ◌*◌, ◌^◌, ◌<◌, ◌≤◌, ◌⊎◌, min, nat_le, Bool, true, false, ◌&&◌, Some}
use Rattle.std.specs.Prelude.{List, [], ◌∷◌, codes, length, ⊤, Option, None, Result, MatchResult}
use Rattle.pos_service.specs.declared.display_text.Attribute.{Attribute}
use Rattle.pos_service.specs.declared.display_text.Direction.{Direction}
use Rattle.pos_service.specs.declared.display_text.Place.{Place}
use Rattle.pos_service.specs.declared.kind.Kind.{Kind}
use Rattle.pos_service.specs.declared.kind.Kind.TheVariants as kind
use Rattle.pos_service.specs.declared.plant.Mechanism.{Mechanism}
use Rattle.pos_service.specs.declared.plant.Mechanism.TheVariants as mechanism
use Rattle.pos_service.specs.declared.plant.Plant.{Plant}
use Rattle.pos_service.specs.declared.order.Argument.{Argument}
use Rattle.pos_service.specs.declared.order.Argument.TheVariants.{Bytes, Number}
use Rattle.pos_service.specs.declared.order.Order.{Order}
use Rattle.pos_service.specs.declared.order.Order.TheVariants as order
use Rattle.pos_service.specs.declared.order.Reply.{Reply}
use Rattle.pos_service.specs.declared.order.Reply.TheVariants as reply
use Rattle.pos_service.specs.declared.input.Input.{Input}
use Rattle.pos_service.specs.declared.input.Input.TheVariants as input
use Rattle.pos_service.specs.declared.input.Taken.{Taken}
use Rattle.pos_service.specs.declared.input.Taken.TheVariants as taken
use Rattle.pos_service.specs.declared.signs.PaperLevel.TheVariants as paper
use Rattle.pos_service.specs.declared.signs.Signs.{Signs}
use Rattle.pos_service.specs.declared.faults.NoMemory.{NoMemory}
use Rattle.pos_service.specs.declared.receipt_text.Piece.{Piece}
use Rattle.pos_service.specs.Displays.{Display, ShowsText, Scrolls, attribute_number_of, blank_display}
use Rattle.pos_service.specs.Displays.{direction_number_of, is_cursor_place, is_display_text, most_units}
use Rattle.pos_service.specs.Kinds.{is_drawer, is_display, is_printer, rows_of, columns_of, near_of}
use Rattle.pos_service.specs.Receipts.{Prints, pieces, cut_pieces, is_printable_text, paper_level}

-- a peripheral: what it is, what it is physically, whether it is out of service, how often its line has failed, and
-- how many orders it was given
pub record PeripheralState : Type 0 where
  pub kind : Kind
  pub plant : Plant
  pub is_parked : Bool
  pub failures : ℕ
  pub orders : ℕ

-- the numbers of a kind are ones that a profile may give
abbrev pub IsInRange : Kind → Type 0
IsInRange kind.Drawer = ⊤
IsInRange kind.Scanner = ⊤
IsInRange (kind.Display rows columns) = (1 ≤ rows) × (rows ≤ 8) × (1 ≤ columns) × (columns ≤ 80)
IsInRange (kind.Printer chars near) = (1 ≤ chars) × (chars ≤ 255) × (near ≤ 100000)

-- a display has so many rows and columns, and a cell for each place
pub record HasCells (rows columns : ℕ) (display : Display) : Type 0 where
  pub height : display.rows ≡ rows
  pub width : display.columns ≡ columns
  pub count : length display.cells ≡ display.rows * display.columns

-- a kind's mechanism
abbrev pub IsMechanismOf : Kind → Mechanism → Type 0
IsMechanismOf kind.Drawer (mechanism.Drawer is_open) = ⊤
IsMechanismOf kind.Scanner mechanism.Scanner = ⊤
IsMechanismOf (kind.Display rows columns) (mechanism.Display shown) = HasCells rows columns shown
IsMechanismOf (kind.Printer chars near) (mechanism.Printer printed) = printed.chars ≡ chars
IsMechanismOf is of_another = ⊥

-- a kind's plant, on or off
abbrev pub IsPlantOf : Kind → Plant → Type 0
IsPlantOf is plant = IsMechanismOf is plant.mechanism

-- it is on
abbrev pub IsOn : Plant → Type 0
IsOn plant = plant.powered ≡ true

-- a plant with this mechanism that is on
abbrev pub switched_on : Mechanism → Plant
switched_on m = record { powered = true; mechanism = m }

-- what a peripheral of this kind and mechanism shows, on or off
abbrev pub signs_by : Bool → Kind → Mechanism → Signs
signs_by powered is (mechanism.Drawer is_open) =
    record { powered = powered; drawer_open = is_open; cover_open = false; paper = paper.Good }
signs_by powered is mechanism.Scanner =
    record { powered = powered; drawer_open = false; cover_open = false; paper = paper.Good }
signs_by powered is (mechanism.Display shown) =
    record { powered = powered; drawer_open = false; cover_open = false; paper = paper.Good }
signs_by powered is (mechanism.Printer printed) = record {
  powered = powered;
  drawer_open = false;
  cover_open = printed.is_cover_open;
  paper = paper_level (near_of is) printed.left;
}

-- what a peripheral of this kind shows of its plant
abbrev pub signs_of : Kind → Plant → Signs
signs_of is plant = signs_by plant.powered is plant.mechanism

-- the place at a row and a column
abbrev pub place_at : ℕ → ℕ → Place
place_at row column = record { row = row; column = column }

-- A peripheral of this kind takes the order: drawers open, displays show a text that they take from one of their
-- places on, are cleared, and scroll by at most as many units as they have rows or columns, and printers print a text
-- that they take, and cut the paper by 0 to 100 percent.
abbrev pub order_fits : Kind → Order → Bool
order_fits is order.OpenDrawer = is_drawer is
order_fits is (order.ShowText row column style bytes) =
    is_display is
    && (is_cursor_place (rows_of (Some is)) (columns_of (Some is)) (place_at row column) && is_display_text bytes)
order_fits is order.ClearText = is_display is
order_fits is (order.Scroll direction units) =
    is_display is && nat_le units (most_units (rows_of (Some is)) (columns_of (Some is)) direction)
order_fits is (order.Print bytes) = is_printer is && is_printable_text bytes
order_fits is (order.Cut percentage) = is_printer is && nat_le percentage 100

-- the word that tells an order, by the method that asks for it
abbrev pub order_word : Order → List ℕ
order_word order.OpenDrawer = codes "openDrawer"
order_word (order.ShowText row column style bytes) = codes "displayTextAt"
order_word order.ClearText = codes "clearText"
order_word (order.Scroll direction units) = codes "scrollText"
order_word (order.Print bytes) = codes "print"
order_word (order.Cut percentage) = codes "cutPaper"

-- what an order is told with behind its word, in the method's order
abbrev pub order_arguments : Order → List Argument
order_arguments (order.ShowText row column style bytes) =
    Number row ∷ Number column ∷ Bytes bytes ∷ Number (attribute_number_of style) ∷ []
order_arguments (order.Scroll direction units) = Number (direction_number_of direction) ∷ Number units ∷ []
order_arguments (order.Print bytes) = Bytes bytes ∷ []
order_arguments (order.Cut percentage) = Number percentage ∷ []
order_arguments other = []

-- Every printer takes the order.
abbrev pub PrintersTake : Order → Type 0
PrintersTake asked = (is : Kind) → is_printer is ≡ true → order_fits is asked ≡ true

-- the input can happen at a peripheral of this kind: each is switched on and off; a drawer is moved; a scanner reads a
-- bar code of the types 0 to 999, or fails to read; a printer's cover is moved, or it is loaded with paper of at most
-- 100,000 lines
abbrev pub input_fits : Kind → Input → Bool
input_fits is (input.PowerMoved is_on) = true
input_fits kind.Drawer (input.DrawerMoved is_open) = true
input_fits kind.Scanner (input.Scan number bytes label) = nat_le number 999
input_fits kind.Scanner input.ScanFault = true
input_fits (kind.Printer chars near) (input.CoverMoved is_open) = true
input_fits (kind.Printer chars near) (input.PaperLoaded lines) = nat_le lines 100000
input_fits is of_another = false

-- the words that tell an input of a printer or of a drawer
abbrev pub input_words : Input → List ℕ
input_words (input.PowerMoved true) = codes "power on"
input_words (input.PowerMoved false) = codes "power off"
input_words (input.CoverMoved true) = codes "cover open"
input_words (input.CoverMoved false) = codes "cover closed"
input_words (input.DrawerMoved true) = codes "open"
input_words (input.DrawerMoved false) = codes "closed"
input_words (input.PaperLoaded lines) = codes "paper"
input_words of_a_scanner = []

-- the number that an input is told with behind its words, if there is one
abbrev pub input_number : Input → Option ℕ
input_number (input.PaperLoaded lines) = Some lines
input_number other = None

-- one more; the last value stays
abbrev pub counted : ℕ → ℕ
counted n = min (n + 1) (2 ^ 64 - 1)

-- the count rose, or it stays at its last value
abbrev pub Rose : ℕ → ℕ → Type 0
Rose old new = (old < new) ⊎ ((old ≡ 2 ^ 64 - 1) × (new ≡ 2 ^ 64 - 1))

-- a drawer is open then
abbrev pub Opens : Mechanism → Mechanism → Type 0
Opens (mechanism.Drawer was_open) new = new ≡ mechanism.Drawer true
Opens mechanism.Scanner new = ⊥
Opens (mechanism.Display shown) new = ⊥
Opens (mechanism.Printer printed) new = ⊥

-- a display shows a text then, from a place on
abbrev pub Shows : Place → Attribute → List ℕ → Mechanism → Mechanism → Type 0
Shows start style bytes (mechanism.Display old) (mechanism.Display new) = ShowsText old start style bytes new
Shows start style bytes old new = ⊥

-- a display is blank then
abbrev pub Clears : Mechanism → Mechanism → Type 0
Clears (mechanism.Display old) new = new ≡ mechanism.Display (blank_display old.rows old.columns)
Clears old new = ⊥

-- what a display shows has moved then
abbrev pub Moves : Direction → ℕ → Mechanism → Mechanism → Type 0
Moves direction units (mechanism.Display old) (mechanism.Display new) = Scrolls old direction units new
Moves direction units old new = ⊥

-- a printer prints a request of these pieces then, or says why it prints nothing of it
abbrev pub PrintsOut : List Piece → Mechanism → Reply → Mechanism → Type 0
PrintsOut ps (mechanism.Printer old) said (mechanism.Printer new) = Prints old ps said new
PrintsOut ps old said new = ⊥

-- From the old mechanism, an order that reaches a peripheral that is on may get this reply and leave the new: a drawer
-- opens; a display shows a text, is blank, or scrolls; a printer prints, or its cover is open, or its paper ends.
abbrev pub Obeys : Order → Mechanism → Reply → Mechanism → Type 0
Obeys (order.Print bytes) old said new = PrintsOut (pieces bytes) old said new
Obeys (order.Cut percentage) old said new = PrintsOut (cut_pieces percentage) old said new
Obeys order.OpenDrawer old reply.Done new = Opens old new
Obeys (order.ShowText row column style bytes) old reply.Done new = Shows (place_at row column) style bytes old new
Obeys order.ClearText old reply.Done new = Clears old new
Obeys (order.Scroll direction units) old reply.Done new = Moves direction units old new
Obeys asked old said new = ⊥

-- From the old plant, an order that reaches the peripheral may get this reply and leave the new plant: one that is off
-- answers that, and is as it was; one that is on answers by its mechanism, and stays on.
abbrev pub Performs : Order → Plant → Reply → Plant → Type 0
Performs asked old reply.Offline new = (old.powered ≡ false) × (new ≡ old)
Performs asked old said new = IsOn old × IsOn new × Obeys asked old.mechanism said new.mechanism

-- From the old mechanism, an input of a peripheral that is on may be taken so and leave the new: a drawer is open or
-- closed as it was moved, so is a printer's cover, or it has so many lines of paper left, and nothing of a scanner or
-- of a display changes.
abbrev pub Receives : Input → Mechanism → Taken → Mechanism → Type 0
Receives (input.DrawerMoved is_open) (mechanism.Drawer was_open) taken.Quiet new = new ≡ mechanism.Drawer is_open
Receives (input.Scan number bytes label) mechanism.Scanner taken.Scan new = new ≡ mechanism.Scanner
Receives input.ScanFault mechanism.Scanner taken.Fault new = new ≡ mechanism.Scanner
Receives other (mechanism.Display shown) taken.Quiet new = new ≡ mechanism.Display shown
Receives (input.CoverMoved is_open) (mechanism.Printer old) taken.Quiet new =
    new ≡ mechanism.Printer (record old { is_cover_open = is_open })
Receives (input.PaperLoaded lines) (mechanism.Printer old) taken.Quiet new =
    new ≡ mechanism.Printer (record old { left = lines })
Receives other old taken new = ⊥

-- The same of a peripheral that is on, which stays on, or off, which tells nothing and is as it was.
abbrev pub TakesWhile : Bool → Input → Plant → Taken → Plant → Type 0
TakesWhile true given old taken new = IsOn new × Receives given old.mechanism taken new.mechanism
TakesWhile false given old taken.Quiet new = new ≡ old
TakesWhile false given old taken new = ⊥

-- From the old plant, an input may be taken so and leave the new plant: the peripheral is on or off as it was switched,
-- or takes the input by whether it is on.
abbrev pub Takes : Input → Plant → Taken → Plant → Type 0
Takes (input.PowerMoved is_on) old taken.Quiet new = new ≡ record old { powered = is_on }
Takes (input.PowerMoved is_on) old taken new = ⊥
Takes given old taken new = TakesWhile old.powered given old taken new

-- A line fault changes nothing but the count of failures, whether the peripheral is on or off; with every other reply
-- the line has not failed.
abbrev pub Replies : PeripheralState → Order → Reply → PeripheralState → Type 0
Replies old order reply.LineFault new = (new.plant ≡ old.plant) × Rose old.failures new.failures
Replies old order said new = Performs order old.plant said new.plant × (new.failures ≡ old.failures)

-- the plant and the count of failures are as they were
abbrev pub IsUntouched : PeripheralState → PeripheralState → Type 0
IsUntouched old new = (new.plant ≡ old.plant) × (new.failures ≡ old.failures)

-- An order was given, and counted: it got a reply, or found no memory and did nothing.
pub record Asked (old : PeripheralState) (order : Order) (outcome : Result Reply NoMemory) (new : PeripheralState)
    : Type 0 where
  pub kind : new.kind ≡ old.kind
  pub unparked : new.is_parked ≡ false
  pub orders : new.orders ≡ counted old.orders
  pub answer : MatchResult outcome (λ reply. Replies old order reply new) (λ want. IsUntouched old new)

-- An input was handed in: it was taken, or found no memory and did nothing. The line has no part in it.
pub record Fed (old : PeripheralState) (input : Input) (outcome : Result Taken NoMemory) (new : PeripheralState)
    : Type 0 where
  pub kind : new.kind ≡ old.kind
  pub unparked : new.is_parked ≡ false
  pub failures : new.failures ≡ old.failures
  pub orders : new.orders ≡ old.orders
  pub answer : MatchResult outcome
      (λ taken. Takes input old.plant taken new.plant)
      (λ want. new.plant ≡ old.plant)

-- A peripheral is out of service, and else as it was.
abbrev pub Parks : PeripheralState → PeripheralState → Type 0
Parks old new = new ≡ record old { is_parked = true }
