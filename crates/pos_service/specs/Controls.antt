-- A control: its properties, its list of events, and its output (common chapter, for the scan that it shows chapter
-- Scanner, for its cursor chapter Line Display, and for its writer chapter POS Printer).
use Rattle.std.specs.Prelude.{ℕ, Bool, false, not, ◌&&◌, ◌||◌, List, [], Option, Some, None, is_none, option_map, map}
use Rattle.std.specs.Prelude.{nat_eq, if◌then◌else◌}
use Rattle.pos_service.specs.declared.category.Category.{Category}
use Rattle.pos_service.specs.declared.context.OpenDevice.{OpenDevice}
use Rattle.pos_service.specs.declared.context.OpenDevice.TheVariants as open_device
use Rattle.pos_service.specs.declared.display_text.Cursor.{Cursor}
use Rattle.pos_service.specs.declared.display_text.Place.{Place}
use Rattle.pos_service.specs.declared.event.ErrorReply.{ErrorReply}
use Rattle.pos_service.specs.declared.event.Event.{Event}
use Rattle.pos_service.specs.declared.event.Locus.TheVariants as locus
use Rattle.pos_service.specs.declared.code.Code.{Code}
use Rattle.pos_service.specs.declared.order.Order.{Order}
use Rattle.pos_service.specs.declared.property.Settings.{Settings}
use Rattle.pos_service.specs.declared.input.Scan.{Scan}
use Rattle.pos_service.specs.Categories.{reports_power}
use Rattle.pos_service.specs.Displays.{default_cursor}
use Rattle.pos_service.specs.Events.{EventList, Enqueued, Data, Error, Complete, no_events, event_of, scan_of, enqueued}
use Rattle.pos_service.specs.Events.{all_enqueued, input_cleared, input_failed, output_cleared}
use Rattle.pos_service.specs.Events.{deliverable as deliverable_in, delivered as delivered_in}
use Rattle.pos_service.specs.Output.{Output, is_outstanding, no_output, with_request, request_done, request_failed}
use Rattle.pos_service.specs.Output.{output_deleted, output_after}

-- the defaults of the properties that are set: all here are false, and PowerNotify is PN_DISABLED
abbrev pub default_settings : Settings
default_settings = record {
  freeze_events = false;
  power_notify = false;
  data_event_enabled = false;
  auto_disable = false;
  decode_data = false;
  async_mode = false;
}

-- ScanData, ScanDataLabel and ScanDataType show no scan: no data, no label, and the type 0
abbrev pub no_scan : Scan
no_scan = record { kind = 0; bytes = []; label = [] }

-- what a control keeps of output: OutputID, and the output that it has still to do
pub record Writer : Type 0 where
  pub output_id : ℕ
  pub output : Output

-- no output, and the OutputID that the next request gets
abbrev pub default_writer : ℕ → Writer
default_writer next = record { output_id = 0; output = no_output next }

-- a control: closed if it has no device open; with DeviceEnabled, and the scan that ScanData, ScanDataLabel and
-- ScanDataType show
pub record Control : Type 0 where
  pub category : Category
  pub device : Option OpenDevice
  pub enabled : Bool
  pub settings : Settings
  pub shown : Scan
  pub cursor : Cursor
  pub writer : Writer
  pub list : EventList

-- a control as it is made: its OutputIDs rise from 1
abbrev pub new_control : Category → Control
new_control category = record {
  category = category;
  device = None;
  enabled = false;
  settings = default_settings;
  shown = no_scan;
  cursor = default_cursor;
  writer = default_writer 1;
  list = no_events;
}

-- a control that has opened a device: its properties have their defaults, and its OutputIDs go on
abbrev pub opened : Control → Option OpenDevice → Control
opened control device = record (new_control control.category) {
  device = device;
  writer = default_writer control.writer.output.next;
}

-- with other output
abbrev pub with_output : Output → Writer → Writer
with_output output writer = record writer { output = output }

-- a control whose device is disabled, whose events and output are deleted, and whose error states have ended; its other
-- properties stay
abbrev pub stopped : Control → Control
stopped control = record control {
  enabled = false;
  writer = with_output (output_deleted control.writer.output) control.writer;
  list = no_events;
}

-- a control that was closed
abbrev pub closed : Control → Control
closed control = record (stopped control) { device = None }

-- a control is to be notified of its device's power, as far as that is told at all
abbrev pub is_notified : Control → Bool
is_notified control = reports_power control.category && control.settings.power_notify

-- the cursor at another place
abbrev pub moved_to : Place → Cursor → Cursor
moved_to place cursor = record cursor { place = place }

-- a control whose cursor is at another place
abbrev pub with_place : Place → Control → Control
with_place place control = record control { cursor = moved_to place control.cursor }

-- the input or the output error state stands
abbrev pub is_in_error : Control → Bool
is_in_error control = control.list.in_error || control.writer.output.is_failed

-- S_CLOSED, S_ERROR, S_BUSY or S_IDLE
abbrev pub state_of : Control → ℕ
state_of control =
    if is_none control.device then 1
    else (if is_in_error control then 4 else (if is_outstanding control.writer.output then 3 else 2))

-- the place of the device that is open; the Hard Totals have none
abbrev pub open_place : Option OpenDevice → Option ℕ
open_place None = None
open_place (Some (open_device.At place)) = Some place
open_place (Some open_device.Totals) = None

-- a control's device is the one at this place
abbrev pub is_at : Option OpenDevice → ℕ → Bool
is_at None place = false
is_at (Some (open_device.At at)) place = nat_eq at place
is_at (Some open_device.Totals) place = false

-- a control has the device at this place open and enabled
abbrev pub listens : ℕ → Control → Bool
listens place control = control.enabled && is_at control.device place

-- the control as something at the device changes it, where it has the device open and enabled
abbrev pub if_listening : ℕ → (Control → Control) → Control → Control
if_listening place change control = if listens place control then change control else control

-- something at the device changes each control that has it open and enabled, and no other
abbrev pub all_listening : ℕ → (Control → Control) → List Control → List Control
all_listening place change controls = map (if_listening place change) controls

-- a control with more events at the end of its list
abbrev pub heard : List Enqueued → Control → Control
heard events control = record control { list = all_enqueued events control.list }

-- a control for which a scan has come: it gets a DataEvent and is disabled under AutoDisable, but not in the input
-- error state, in which the scan is ignored
abbrev pub read : Scan → Control → Control
read scan control =
    if control.list.in_error then control
    else record control {
      enabled = control.enabled && not control.settings.auto_disable;
      list = enqueued (Data scan) control.list;
    }

-- a control whose input has failed
abbrev pub failed : Control → Control
failed control = record control { list = input_failed control.list }

-- with one more request, which has the next OutputID
abbrev pub queued_by : Order → Writer → Writer
queued_by order writer = record writer { output_id = writer.output.next; output = with_request order writer.output }

-- a control with one more request
abbrev pub queued : Order → Control → Control
queued order control = record control { writer = queued_by order control.writer }

-- a control whose first request, with this OutputID, is done: the request is removed, and an OutputCompleteEvent
-- enqueued
abbrev pub completed : ℕ → Control → Control
completed id control = record control {
  writer = with_output (request_done control.writer.output) control.writer;
  list = enqueued (Complete id) control.list;
}

-- a control whose first request has failed: it stays the first, and an ErrorEvent of output is enqueued
abbrev pub output_failed : Code → ℕ → Control → Control
output_failed code extended control = record control {
  writer = with_output (request_failed control.writer.output) control.writer;
  list = enqueued (Error code extended locus.Output) control.list;
}

-- clearInput: the control without DataEvents and ErrorEvents of input, and without an input error
abbrev pub without_input : Control → Control
without_input control = record control { list = input_cleared control.list }

-- clearInputProperties: the control whose ScanData, ScanDataLabel and ScanDataType have their defaults
abbrev pub without_scan : Control → Control
without_scan control = record control { shown = no_scan }

-- clearOutput: a control without requests, without ErrorEvents of output, and without an error of output.
-- OutputCompleteEvents stay.
abbrev pub without_output : Control → Control
without_output control = record control {
  writer = with_output (output_deleted control.writer.output) control.writer;
  list = output_cleared control.list;
}

-- no event may be delivered: the control is closed, or its events are frozen (FreezeEvents)
abbrev pub is_held_back : Control → Bool
is_held_back control = is_none control.device || control.settings.freeze_events

-- the event that may be delivered now
abbrev pub next_event : Control → Option Enqueued
next_event control = deliverable_in control.settings.data_event_enabled (is_held_back control) control.list

-- that event as the application gets it
abbrev pub deliverable : Control → Option Event
deliverable control = option_map event_of (next_event control)

-- the scan of an event, if it is a DataEvent
abbrev pub scan_in : Option Enqueued → Option Scan
scan_in None = None
scan_in (Some event) = scan_of event

-- a scan as its properties show it: label and type are told by DecodeData
abbrev pub as_shown : Bool → Scan → Scan
as_shown decode scan = if decode then scan else record scan { kind = 0; label = [] }

-- once a DataEvent with this scan has been delivered, DataEventEnabled is false; another event changes nothing of it
abbrev pub disabled_by : Option Scan → Settings → Settings
disabled_by None settings = settings
disabled_by (Some scan) settings = record settings { data_event_enabled = false }

-- and the scan is shown as DecodeData is now; with another event what was shown stays
abbrev pub shown_after : Option Scan → Bool → Scan → Scan
shown_after None decode shown = shown
shown_after (Some scan) decode shown = as_shown decode scan

-- the control, once that event has been delivered and the application has replied
abbrev pub delivered : ErrorReply → Control → Control
delivered reply control = record control {
  settings = disabled_by (scan_in (next_event control)) control.settings;
  shown = shown_after (scan_in (next_event control)) control.settings.decode_data control.shown;
  writer = with_output (output_after (deliverable control) reply control.writer.output) control.writer;
  list = delivered_in control.settings.data_event_enabled (is_held_back control) reply control.list;
}
