-- The properties of every category: their refusals, their values, and what setting one does.
use Rattle.std.specs.Prelude.{ℕ, nat_abs, Bool, true, false, not, ◌&&◌, ◌||◌, if◌then◌else◌, pos, List, [], ◌∷◌, Option}
use Rattle.std.specs.Prelude.{Some, None, is_none, length, filter, codes, bytes_eq}
use Rattle.std.specs.Map.{lookup}
use Rattle.pos_service.specs.declared.category.Category.{Category}
use Rattle.pos_service.specs.declared.category.Category.TheVariants as category
use Rattle.pos_service.specs.declared.display_text.Cursor.{Cursor}
use Rattle.pos_service.specs.declared.kind.Kind.{Kind}
use Rattle.pos_service.specs.declared.property.Property.{Property}
use Rattle.pos_service.specs.declared.property.Property.TheVariants as property
use Rattle.pos_service.specs.declared.property.PropertyRow.{PropertyRow}
use Rattle.pos_service.specs.declared.property.Settings.{Settings}
use Rattle.pos_service.specs.declared.signs.Signs.{Signs}
use Rattle.pos_service.specs.declared.needs.ClaimNeed.{ClaimNeed}
use Rattle.pos_service.specs.declared.needs.ClaimNeed.TheVariants as claim_need
use Rattle.pos_service.specs.declared.needs.Needs.{Needs}
use Rattle.pos_service.specs.declared.context.PropertyContext.{PropertyContext}
use Rattle.pos_service.specs.declared.context.FilesSummary.{FilesSummary}
use Rattle.pos_service.specs.declared.answer.Value.{Value}
use Rattle.pos_service.specs.declared.answer.Value.TheVariants as value
use Rattle.pos_service.specs.declared.code.Code.TheVariants as code
use Rattle.pos_service.specs.Categories.{is_category, is_exclusive, reports_power}
use Rattle.pos_service.specs.Controls.{Control, is_notified, state_of}
use Rattle.pos_service.specs.Events.{EventList, Status, data_count, enqueued}
use Rattle.pos_service.specs.Kinds.{rows_of, columns_of, chars_of}
use Rattle.pos_service.specs.Numbers.{is_index, is_one, is_up_to}
use Rattle.pos_service.specs.Receipts.{is_empty, is_near_end}
use Rattle.pos_service.specs.Needs.{table}
use Rattle.pos_service.specs.Refusals.{Row, when}
use Rattle.pos_service.specs.Statuses.{power_status}

-- the row of a property of an open control
abbrev pub plain : Option Category → PropertyRow
plain category = record {
  category = category;
  is_open = true;
  claim = claim_need.Any;
  is_enabled = false;
  is_of_files = false;
  is_of_bytes = false;
  is_settable = false;
}

-- that of one that can be set
abbrev pub settable : Option Category → PropertyRow
settable category = record (plain category) { is_settable = true }

-- that of one of an enabled device
abbrev pub of_device : Category → ClaimNeed → PropertyRow
of_device category claim = record (plain (Some category)) { claim = claim; is_enabled = true }

-- that of one of totals that are ready
abbrev pub of_files : PropertyRow
of_files = record (of_device category.HardTotals claim_need.Any) { is_of_files = true }

-- that of one whose value is a copy of bytes
abbrev pub of_bytes : PropertyRow
of_bytes = record (plain (Some category.Scanner)) { is_of_bytes = true }

-- What is known of each property beforehand: the category whose controls have it (none where those of each do); whether
-- it can be read of an open control alone, by whose claim, of an enabled device alone, of totals alone that are ready;
-- whether its value is a copy of bytes; and whether it can be set.
abbrev pub row_of : Property → PropertyRow
row_of property.State = record (plain None) { is_open = false }
row_of property.Claimed = plain None
row_of property.DeviceEnabled = settable None
row_of property.FreezeEvents = settable None
row_of property.CapPowerReporting = plain None
row_of property.PowerNotify = settable None
row_of property.PowerState = plain None
row_of property.DataEventEnabled = settable (Some category.Scanner)
row_of property.AutoDisable = settable (Some category.Scanner)
row_of property.DataCount = plain (Some category.Scanner)
row_of property.DecodeData = settable (Some category.Scanner)
row_of property.ScanData = of_bytes
row_of property.ScanDataLabel = of_bytes
row_of property.ScanDataType = plain (Some category.Scanner)
row_of property.CapStatus = plain (Some category.CashDrawer)
row_of property.DrawerOpened = of_device category.CashDrawer claim_need.Any
row_of property.Rows = plain (Some category.LineDisplay)
row_of property.Columns = plain (Some category.LineDisplay)
row_of property.CursorRow = settable (Some category.LineDisplay)
row_of property.CursorColumn = settable (Some category.LineDisplay)
row_of property.CursorUpdate = settable (Some category.LineDisplay)
row_of property.AsyncMode = settable (Some category.PosPrinter)
row_of property.OutputId = plain (Some category.PosPrinter)
row_of property.RecLineChars = of_device category.PosPrinter claim_need.Own
row_of property.CoverOpen = of_device category.PosPrinter claim_need.Own
row_of property.RecEmpty = of_device category.PosPrinter claim_need.Own
row_of property.RecNearEnd = of_device category.PosPrinter claim_need.Own
row_of property.TotalsSize = plain (Some category.HardTotals)
row_of property.FreeData = of_files
row_of property.NumberOfFiles = of_files
row_of property.TransactionInProgress = plain (Some category.HardTotals)
row_of property.CapTransactions = plain (Some category.HardTotals)
row_of property.CapSingleFile = plain (Some category.HardTotals)
row_of property.CapErrorDetection = plain (Some category.HardTotals)

-- the names of the properties, as the standard writes them
abbrev pub property_names : List (List ℕ × Property)
property_names =
    (codes "State", property.State)
    ∷ (codes "Claimed", property.Claimed)
    ∷ (codes "DeviceEnabled", property.DeviceEnabled)
    ∷ (codes "FreezeEvents", property.FreezeEvents)
    ∷ (codes "CapPowerReporting", property.CapPowerReporting)
    ∷ (codes "PowerNotify", property.PowerNotify)
    ∷ (codes "PowerState", property.PowerState)
    ∷ (codes "DataEventEnabled", property.DataEventEnabled)
    ∷ (codes "AutoDisable", property.AutoDisable)
    ∷ (codes "DataCount", property.DataCount)
    ∷ (codes "DecodeData", property.DecodeData)
    ∷ (codes "ScanData", property.ScanData)
    ∷ (codes "ScanDataLabel", property.ScanDataLabel)
    ∷ (codes "ScanDataType", property.ScanDataType)
    ∷ (codes "CapStatus", property.CapStatus)
    ∷ (codes "DrawerOpened", property.DrawerOpened)
    ∷ (codes "Rows", property.Rows)
    ∷ (codes "Columns", property.Columns)
    ∷ (codes "CursorRow", property.CursorRow)
    ∷ (codes "CursorColumn", property.CursorColumn)
    ∷ (codes "CursorUpdate", property.CursorUpdate)
    ∷ (codes "AsyncMode", property.AsyncMode)
    ∷ (codes "OutputID", property.OutputId)
    ∷ (codes "RecLineChars", property.RecLineChars)
    ∷ (codes "CoverOpen", property.CoverOpen)
    ∷ (codes "RecEmpty", property.RecEmpty)
    ∷ (codes "RecNearEnd", property.RecNearEnd)
    ∷ (codes "TotalsSize", property.TotalsSize)
    ∷ (codes "FreeData", property.FreeData)
    ∷ (codes "NumberOfFiles", property.NumberOfFiles)
    ∷ (codes "TransactionInProgress", property.TransactionInProgress)
    ∷ (codes "CapTransactions", property.CapTransactions)
    ∷ (codes "CapSingleFile", property.CapSingleFile)
    ∷ (codes "CapErrorDetection", property.CapErrorDetection)
    ∷ []

-- the names of which the length is one of these
abbrev pub names_of : (ℕ → Bool) → List (List ℕ × Property)
names_of is_length = filter (λ name. is_length (length name.0)) property_names

-- the property of this name
abbrev pub property_named : List ℕ → Option Property
property_named word = lookup (bytes_eq word) property_names

-- the controls of a category have what the category's controls have, or those of each
abbrev pub is_in : Option Category → Category → Bool
is_in its c = is_none its || is_category its c

-- The property may be set to this value, by its type, and by its range at a device of this kind: PowerNotify is 0 or 1,
-- CursorRow one of the display's rows, CursorColumn one of its columns or the place right of them.
abbrev pub takes : Option Kind → Property → Value → Bool
takes at property.DeviceEnabled (value.Truth is_true) = true
takes at property.FreezeEvents (value.Truth is_true) = true
takes at property.PowerNotify (value.Number n) = is_up_to 1 n
takes at property.DataEventEnabled (value.Truth is_true) = true
takes at property.AutoDisable (value.Truth is_true) = true
takes at property.DecodeData (value.Truth is_true) = true
takes at property.CursorRow (value.Number n) = is_index (rows_of at) n
takes at property.CursorColumn (value.Number n) = is_up_to (columns_of at) n
takes at property.CursorUpdate (value.Truth is_true) = true
takes at property.AsyncMode (value.Truth is_true) = true
takes at p v = false

-- whose claim setting the property asks: DeviceEnabled of an exclusive-use device is set by the control alone that
-- holds it
abbrev pub claim_to_set : Category → Property → ClaimNeed
claim_to_set c property.DeviceEnabled = if is_exclusive c then claim_need.Own else claim_need.Any
claim_to_set c p = claim_need.Any

-- what setting it asks of a control of a category before anything else: a property of another category can't be set
-- either
abbrev pub needs_to_set : Category → Property → Needs
needs_to_set c p = record {
  is_open = true;
  is_there = is_in (row_of p).category c && (row_of p).is_settable;
  claim = claim_to_set c p;
  is_enabled = false;
}

-- one of two truth values is the other
abbrev pub is_same : Bool → Bool → Bool
is_same a b = if a then b else not b

-- PowerNotify can't be set so now: it would be another while the device is enabled, or PN_ENABLED where the device's
-- power isn't told
abbrev pub is_notify_refused : Control → Property → Value → Bool
is_notify_refused control property.PowerNotify (value.Number n) =
    control.enabled && not (is_same (is_one n) control.settings.power_notify)
    || is_one n && not (reports_power control.category)
is_notify_refused control p v = false

-- the values to which a control's property can't be set, by the kind of its device
abbrev pub value_rows : Option Kind → Control → Property → Value → List Row
value_rows at control p v =
    when (not (takes at p v)) code.Illegal
    ∷ when (is_notify_refused control p v) code.Illegal ∷ []

-- A property is set by the control with a number, whose device has this holder and is of this kind.
abbrev pub set_rows : ℕ → Option ℕ → Option Kind → Control → Property → Value → List Row
set_rows number holder at control p v =
    table number holder control (needs_to_set control.category p) (value_rows at control p v)

-- DeviceEnabled, once the property is set
abbrev pub enabled_after : Bool → Property → Value → Bool
enabled_after was property.DeviceEnabled (value.Truth is_enabled) = is_enabled
enabled_after was p v = was

-- the others that are truth values, and PowerNotify, once the property is set
abbrev pub settings_after : Settings → Property → Value → Settings
settings_after was property.FreezeEvents (value.Truth is_true) = record was { freeze_events = is_true }
settings_after was property.PowerNotify (value.Number n) = record was { power_notify = is_one n }
settings_after was property.DataEventEnabled (value.Truth is_true) = record was { data_event_enabled = is_true }
settings_after was property.AutoDisable (value.Truth is_true) = record was { auto_disable = is_true }
settings_after was property.DecodeData (value.Truth is_true) = record was { decode_data = is_true }
settings_after was property.AsyncMode (value.Truth is_true) = record was { async_mode = is_true }
settings_after was p v = was

-- the value of a setting that is a truth value; any other property has none here
abbrev pub truth_of : Settings → Property → Option Bool
truth_of settings property.FreezeEvents = Some settings.freeze_events
truth_of settings property.DataEventEnabled = Some settings.data_event_enabled
truth_of settings property.AutoDisable = Some settings.auto_disable
truth_of settings property.DecodeData = Some settings.decode_data
truth_of settings property.AsyncMode = Some settings.async_mode
truth_of settings p = None

-- the cursor, once the property is set
abbrev pub cursor_after : Cursor → Property → Value → Cursor
cursor_after was property.CursorRow (value.Number n) = record was { place = record was.place { row = nat_abs n } }
cursor_after was property.CursorColumn (value.Number n) = record was { place = record was.place { column = nat_abs n } }
cursor_after was property.CursorUpdate (value.Truth is_true) = record was { update = is_true }
cursor_after was p v = was

-- setting the property tells the control its device's power: it enables a disabled control that is to be notified
abbrev pub tells_power : Control → Property → Value → Bool
tells_power control property.DeviceEnabled (value.Truth is_enabled) =
    is_enabled && not control.enabled && is_notified control
tells_power control p v = false

-- the control's events, once the property is set, by whether its device is on
abbrev pub list_after : Bool → Control → Property → Value → EventList
list_after powered control p v =
    if tells_power control p v then enqueued (Status (power_status powered)) control.list else control.list

-- the control with the property set, by the signs of its device
abbrev pub after_set : Signs → Control → Property → Value → Control
after_set signs control p v = record control {
  enabled = enabled_after control.enabled p v;
  settings = settings_after control.settings p v;
  cursor = cursor_after control.cursor p v;
  list = list_after signs.powered control p v;
}

-- the value of the property is a copy of bytes, for which memory may be wanted
abbrev pub is_of_bytes : Property → Bool
is_of_bytes p = (row_of p).is_of_bytes

-- what reading it asks of a control of a category before anything else
abbrev pub needs_of : Category → Property → Needs
needs_of c p = record {
  is_open = (row_of p).is_open;
  is_there = is_in (row_of p).category c;
  claim = (row_of p).claim;
  is_enabled = (row_of p).is_enabled;
}

-- A property is read by the control with a number, whose device has this holder.
abbrev pub get_rows : ℕ → Option ℕ → Control → PropertyContext → Property → List Row
get_rows number holder control context p =
    table number holder control (needs_of control.category p)
    (when ((row_of p).is_of_files && is_none context.files) code.Failure ∷ [])

-- PR_STANDARD or PR_NONE
abbrev pub power_reporting : Bool → ℕ
power_reporting true = 1
power_reporting false = 0

-- PN_ENABLED or PN_DISABLED
abbrev pub notify_number : Bool → ℕ
notify_number true = 1
notify_number false = 0

-- PS_ONLINE or PS_OFF_OFFLINE while the device is enabled for a control that is to be notified, else PS_UNKNOWN
abbrev pub power_state : Control → Signs → ℕ
power_state control signs = if control.enabled && is_notified control then power_status signs.powered else 2000

-- what is told of files that are known
abbrev pub told_of_files : Option FilesSummary → (FilesSummary → ℕ) → Value
told_of_files None tell = value.Empty
told_of_files (Some files) tell = value.Number (pos (tell files))

-- the value of a property, by what is known of the control and its device
abbrev pub property_of : Control → PropertyContext → Property → Value
property_of control context property.State = value.Number (pos (state_of control))
property_of control context property.Claimed = value.Truth context.is_claimed
property_of control context property.DeviceEnabled = value.Truth control.enabled
property_of control context property.FreezeEvents = value.Truth control.settings.freeze_events
property_of control context property.CapPowerReporting =
    value.Number (pos (power_reporting (reports_power control.category)))
property_of control context property.PowerNotify = value.Number (pos (notify_number control.settings.power_notify))
property_of control context property.PowerState = value.Number (pos (power_state control context.signs))
property_of control context property.DataEventEnabled = value.Truth control.settings.data_event_enabled
property_of control context property.AutoDisable = value.Truth control.settings.auto_disable
property_of control context property.DataCount = value.Number (pos (data_count control.list))
property_of control context property.DecodeData = value.Truth control.settings.decode_data
property_of control context property.ScanData = value.Bytes control.shown.bytes
property_of control context property.ScanDataLabel = value.Bytes control.shown.label
property_of control context property.ScanDataType = value.Number (pos control.shown.kind)
property_of control context property.CapStatus = value.Truth true
property_of control context property.DrawerOpened = value.Truth context.signs.drawer_open
property_of control context property.Rows = value.Number (pos (rows_of context.kind))
property_of control context property.Columns = value.Number (pos (columns_of context.kind))
property_of control context property.CursorRow = value.Number (pos control.cursor.place.row)
property_of control context property.CursorColumn = value.Number (pos control.cursor.place.column)
property_of control context property.CursorUpdate = value.Truth control.cursor.update
property_of control context property.AsyncMode = value.Truth control.settings.async_mode
property_of control context property.OutputId = value.Number (pos control.writer.output_id)
property_of control context property.RecLineChars = value.Number (pos (chars_of context.kind))
property_of control context property.CoverOpen = value.Truth context.signs.cover_open
property_of control context property.RecEmpty = value.Truth (is_empty context.signs.paper)
property_of control context property.RecNearEnd = value.Truth (is_near_end context.signs.paper)
property_of control context property.TotalsSize = value.Number (pos context.totals_size)
property_of control context property.FreeData = told_of_files context.files (λ files. files.free)
property_of control context property.NumberOfFiles = told_of_files context.files (λ files. files.count)
property_of control context property.TransactionInProgress = value.Truth context.in_transaction
property_of control context property.CapTransactions = value.Truth true
property_of control context property.CapSingleFile = value.Truth false
property_of control context property.CapErrorDetection = value.Truth false
