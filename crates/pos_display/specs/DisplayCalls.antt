-- The calls of a line display (chapter Line Display).
use Rattle.std.specs.Prelude.{ℕ, ℤ, nat_abs, Bool, false, not, List, [], ◌∷◌, Option, Some, None, Result, MatchOption}
use Rattle.std.specs.Prelude.{is_none, slice_get}
use Rattle.std.specs.Option.{option_map}
use Rattle.pos_service.specs.declared.call.Call.{Call}
use Rattle.pos_service.specs.declared.call.Call.TheVariants as call
use Rattle.pos_service.specs.declared.code.Code.TheVariants as code
use Rattle.pos_service.specs.declared.action.ControlUpdate.TheVariants as change
use Rattle.pos_service.specs.declared.action.Action.{Action}
use Rattle.pos_service.specs.declared.action.Action.TheVariants as action
use Rattle.pos_service.specs.declared.display_text.Attribute.{Attribute}
use Rattle.pos_service.specs.declared.display_text.Cursor.{Cursor}
use Rattle.pos_service.specs.declared.display_text.Direction.{Direction}
use Rattle.pos_service.specs.declared.display_text.Place.{Place}
use Rattle.pos_service.specs.declared.kind.Kind.{Kind}
use Rattle.pos_service.specs.declared.order.Order.TheVariants as order
use Rattle.pos_service.specs.Displays.{attribute_of, direction_of, is_display_text, most_units, origin, place_left}
use Rattle.pos_service.specs.Kinds.{rows_of, columns_of}
use Rattle.pos_service.specs.Numbers.{is_index, is_up_to}
use Rattle.pos_service.specs.Peripherals.{place_at}
use Rattle.pos_service.specs.Refusals.{Row, when}
use Rattle.pos_service.specs.declared.answer.Answer.{Answer}
use Rattle.pos_service.specs.declared.category.Category.TheVariants as category
use Rattle.pos_service.specs.declared.faults.NoMemory.{NoMemory}
use Rattle.pos_service.specs.Hardware.{Effect}
use Rattle.pos_common.specs.OwnCalls.{OwnCall, OwnOrders}
use Rattle.pos_service.specs.Controls.{Control}

-- a text and its attribute, in this order
abbrev pub text_rows : List ℕ → ℤ → List Row
text_rows text attribute =
    when (not (is_display_text text)) code.Illegal
    ∷ when (is_none (attribute_of attribute)) code.Illegal ∷ []

-- 0 to as many units as a display of this kind has rows or columns in the direction
abbrev pub are_units : Option Kind → Option Direction → ℤ → Bool
are_units at None units = false
are_units at (Some direction) units = is_up_to (most_units (rows_of at) (columns_of at) direction) units

-- a direction and units in it, in this order
abbrev pub scroll_rows : Option Kind → ℤ → ℤ → List Row
scroll_rows at direction units =
    when (is_none (direction_of direction)) code.Illegal
    ∷ when (not (are_units at (direction_of direction) units)) code.Illegal ∷ []

-- the arguments of each call, in order, by the kind of the device's peripheral
abbrev pub display_rows : Option Kind → Call → List Row
display_rows at (call.DisplayText text attribute) = text_rows text attribute
display_rows at (call.DisplayTextAt row column text attribute) =
    when (not (is_index (rows_of at) row)) code.Illegal
    ∷ when (not (is_up_to (columns_of at) column)) code.Illegal
    ∷ text_rows text attribute
display_rows at (call.ScrollText direction units) = scroll_rows at direction units
display_rows at asked = []

-- where a text from this place on leaves the cursor: at its last place if CursorUpdate is true, otherwise at its first
abbrev pub left_by : Option Kind → Cursor → Place → List ℕ → Place
left_by at cursor start text = place_left (rows_of at) (columns_of at) cursor.update start text

-- the order that shows a text from this place on
abbrev pub shows : Option Kind → Cursor → Place → List ℕ → Attribute → Action
shows at cursor start text style =
    action.Gives (order.ShowText start.row start.column style text) (change.Cursor (left_by at cursor start text))

-- the order that moves what is shown by this many units in a direction
abbrev pub scrolls : ℤ → Direction → Action
scrolls units direction = action.Gives (order.Scroll direction (nat_abs units)) change.Nothing

-- What each call comes to at a device of this kind, by the control's cursor. A text is shown, and leaves the cursor at
-- its end or beginning. clearText leaves it at the first place, scrollText at its old one.
abbrev pub display_action : Option Kind → Cursor → Call → Option Action
display_action at cursor (call.DisplayText text attribute) =
    option_map (shows at cursor cursor.place text) (attribute_of attribute)
display_action at cursor (call.DisplayTextAt row column text attribute) =
    option_map (shows at cursor (place_at (nat_abs row) (nat_abs column)) text) (attribute_of attribute)
display_action at cursor call.ClearText = Some (action.Gives order.ClearText (change.Cursor origin))
display_action at cursor (call.ScrollText direction units) = option_map (scrolls units) (direction_of direction)
display_action at cursor asked = None

-- A call of the control with a number at its display, by the claims of all devices.
abbrev pub DisplayCall : ℕ → List (Option ℕ) → Call → Result Answer NoMemory → Effect
DisplayCall number claims asked outcome old before new after = MatchOption (slice_get old number) ⊥ (λ control.
    OwnCall category.LineDisplay (display_rows (Some before.kind) asked)
    (display_action (Some before.kind) control.cursor asked) number claims asked outcome control old before new after)

-- how many orders the display was given before and after it
abbrev pub DisplayOrders : Kind → ℕ → List (Option ℕ) → Call → Result Answer NoMemory → List Control → ℕ → ℕ → Type 0
DisplayOrders is number claims asked outcome controls old new = MatchOption (slice_get controls number) ⊥ (λ control.
    OwnOrders category.LineDisplay (display_rows (Some is) asked) (display_action (Some is) control.cursor asked)
    number claims asked outcome control old new)
