-- The events that wait for a control's application to take them (common chapter, event queue and error handling).
use Rattle.std.specs.Prelude.{ℕ, Bool, true, false, not, List, [], ◌∷◌, ◌++◌, Option, Some, None, filter, count_by}
use Rattle.std.specs.Prelude.{if◌then◌else◌}
use Rattle.pos_service.specs.declared.code.Code.{Code}
use Rattle.pos_service.specs.declared.code.Code.TheVariants as code
use Rattle.pos_service.specs.declared.event.Event.{Event}
use Rattle.pos_service.specs.declared.event.Event.TheVariants as event
use Rattle.pos_service.specs.declared.event.Locus.{Locus}
use Rattle.pos_service.specs.declared.event.Locus.TheVariants as locus
use Rattle.pos_service.specs.declared.event.ErrorReply.{ErrorReply}
use Rattle.pos_service.specs.declared.event.ErrorReply.TheVariants as reply
use Rattle.pos_service.specs.declared.input.Scan.{Scan}

-- an event that is enqueued, with what its delivery needs
pub data Enqueued : Type 0 where
  Status : (status : ℕ) → Enqueued
  Data : (scan : Scan) → Enqueued
  Error : (code : Code) (extended : ℕ) (locus : Locus) → Enqueued
  Complete : (id : ℕ) → Enqueued

-- a control's events, oldest first, and whether it is in the input error state
pub record EventList : Type 0 where
  pub events : List Enqueued
  pub in_error : Bool

-- no events, and no error
abbrev pub no_events : EventList
no_events = record { events = []; in_error = false }

-- the event as its application gets it
abbrev pub event_of : Enqueued → Event
event_of (Status status) = event.StatusUpdate status
event_of (Data scan) = event.Data
event_of (Error code extended locus) = event.Error code extended locus
event_of (Complete id) = event.OutputComplete id

-- the scan of a DataEvent
abbrev pub scan_of : Enqueued → Option Scan
scan_of (Status status) = None
scan_of (Data scan) = Some scan
scan_of (Error code extended locus) = None
scan_of (Complete id) = None

-- a DataEvent
abbrev pub is_data : Enqueued → Bool
is_data (Status status) = false
is_data (Data scan) = true
is_data (Error code extended locus) = false
is_data (Complete id) = false

-- an error of input: its locus is EL_INPUT or EL_INPUT_DATA
abbrev pub is_of_input : Locus → Bool
is_of_input locus.Output = false
is_of_input locus.Input = true
is_of_input locus.InputData = true

-- a waiting event, which is held until DataEventEnabled is true: a DataEvent, or an ErrorEvent of input
abbrev pub is_waiting : Enqueued → Bool
is_waiting (Status status) = false
is_waiting (Data scan) = true
is_waiting (Error code extended locus) = is_of_input locus
is_waiting (Complete id) = false

-- an ErrorEvent of output
abbrev pub is_output_error : Enqueued → Bool
is_output_error (Status status) = false
is_output_error (Data scan) = false
is_output_error (Error code extended locus) = not (is_of_input locus)
is_output_error (Complete id) = false

-- with one more event behind the others
abbrev pub enqueued : Enqueued → EventList → EventList
enqueued event list = record list { events = list.events ++ event ∷ [] }

-- with more events behind the others
abbrev pub all_enqueued : List Enqueued → EventList → EventList
all_enqueued events list = record list { events = list.events ++ events }

-- a scan has come: in the input error state it is ignored
abbrev pub scanned : Scan → EventList → EventList
scanned scan list = if list.in_error then list else enqueued (Data scan) list

-- the ErrorEvents of an input error: E_FAILURE, by their locus
abbrev pub input_error : Locus → Enqueued
input_error at = Error code.Failure 0 at

-- with EL_INPUT_DATA directly before the first DataEvent, where there is one
abbrev pub with_input_data : List Enqueued → List Enqueued
with_input_data [] = []
with_input_data (Data scan ∷ events) = input_error locus.InputData ∷ Data scan ∷ events
with_input_data (Status status ∷ events) = Status status ∷ with_input_data events
with_input_data (Error code extended at ∷ events) = Error code extended at ∷ with_input_data events
with_input_data (Complete id ∷ events) = Complete id ∷ with_input_data events

-- input has failed: EL_INPUT_DATA before the first DataEvent, and EL_INPUT at the end
abbrev pub with_input_error : List Enqueued → List Enqueued
with_input_error events = with_input_data events ++ input_error locus.Input ∷ []

-- input has failed: in the input error state that is ignored
abbrev pub input_failed : EventList → EventList
input_failed list =
    if list.in_error then list else record { events = with_input_error list.events; in_error = true }

-- without DataEvents and ErrorEvents of input, and without an input error
abbrev pub input_cleared : EventList → EventList
input_cleared list = record { events = filter (λ event. not (is_waiting event)) list.events; in_error = false }

-- without ErrorEvents of output. OutputCompleteEvents stay.
abbrev pub output_cleared : EventList → EventList
output_cleared list = record list { events = filter (λ event. not (is_output_error event)) list.events }

-- DataCount: how many DataEvents are enqueued
abbrev pub data_count : EventList → ℕ
data_count list = count_by is_data list.events

-- the event may be delivered: any while data events are enabled, else one that doesn't wait
abbrev pub may_go : Bool → Enqueued → Bool
may_go true event = true
may_go false event = not (is_waiting event)

-- a list at its first event that may be delivered: those before it, the event, and those behind it
pub record Split : Type 0 where
  pub front : List Enqueued
  pub deliverable : Option Enqueued
  pub rest : List Enqueued

-- with one more event in front
abbrev pub in_front : Enqueued → Split → Split
in_front event split = record split { front = event ∷ split.front }

-- the list split at its first event that may be delivered
abbrev pub split : Bool → List Enqueued → Split
split data_enabled [] = record { front = []; deliverable = None; rest = [] }
split data_enabled (event ∷ events) =
    if may_go data_enabled event then record { front = []; deliverable = Some event; rest = events }
    else in_front event (split data_enabled events)

-- the events without the first that may be delivered
abbrev pub left_by : Bool → List Enqueued → List Enqueued
left_by data_enabled events = (split data_enabled events).front ++ (split data_enabled events).rest

-- the application's reply to an error deletes the input that is held: any at EL_INPUT, ER_CLEAR at EL_INPUT_DATA
abbrev pub clears_input : Locus → ErrorReply → Bool
clears_input locus.Output reply = false
clears_input locus.Input reply = true
clears_input locus.InputData reply.Default = false
clears_input locus.InputData reply.Retry = false
clears_input locus.InputData reply.Clear = true
clears_input locus.InputData reply.ContinueInput = false

-- what the reply does to the events that are left, when this event has been delivered; not what it does to output
abbrev pub after_reply : Option Enqueued → ErrorReply → EventList → EventList
after_reply None reply list = list
after_reply (Some (Status status)) reply list = list
after_reply (Some (Data scan)) reply list = list
after_reply (Some (Error code extended locus)) reply list =
    if clears_input locus reply then input_cleared list else list
after_reply (Some (Complete id)) reply list = list

-- the event that may be delivered now: none while events are frozen (FreezeEvents)
abbrev pub deliverable : Bool → Bool → EventList → Option Enqueued
deliverable data_enabled frozen list = if frozen then None else (split data_enabled list.events).deliverable

-- the events when it has been delivered, and the application has replied
abbrev pub delivered : Bool → Bool → ErrorReply → EventList → EventList
delivered data_enabled frozen reply list =
    let left : EventList = record list { events = left_by data_enabled list.events } in
    if frozen then list else after_reply (deliverable data_enabled frozen list) reply left
