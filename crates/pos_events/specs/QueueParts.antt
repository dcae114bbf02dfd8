-- What the parts of a queue mean as one list.
use Rattle.std.specs.Prelude.{◌≡◌, ℕ, ◌+◌, ◌-◌, ◌<◌, Bool, true, false, IsTrue, List, [], ◌∷◌, ◌++◌, Option, Some, None}
use Rattle.std.specs.Prelude.{length, map, take, drop, if◌then◌else◌}
use Rattle.pos_service.specs.declared.input.Scan.{Scan}
use Rattle.pos_service.specs.declared.event.Locus.TheVariants as locus
use Rattle.pos_service.specs.Events.{EventList, Enqueued, Status, Data, Error, Complete, input_error, with_input_data}
use Rattle.pos_events.specs.declared.immediate.PlacedEvent.{PlacedEvent}
use Rattle.pos_events.specs.declared.immediate_event.ImmediateEvent.{ImmediateEvent}
use Rattle.pos_events.specs.declared.immediate_event.ImmediateEvent.TheVariants as immediate_event

-- the waiting events but EL_INPUT_DATA: the DataEvents, and EL_INPUT behind them in the input error state
abbrev pub waiting_in : List Scan → Bool → List Enqueued
waiting_in scans false = map Data scans
waiting_in scans true = map Data scans ++ input_error locus.Input ∷ []

-- an event that doesn't wait
abbrev pub event_of_immediate : ImmediateEvent → Enqueued
event_of_immediate (immediate_event.Status status) = Status status
event_of_immediate (immediate_event.OutputError code extended) = Error code extended locus.Output
event_of_immediate (immediate_event.Complete id) = Complete id

-- the waiting events woven into the immediate ones, each of which has how many of them are directly before it
abbrev pub weave : List Enqueued → List PlacedEvent → List Enqueued
weave waiting [] = waiting
weave waiting (placed ∷ immediate) =
    take placed.before waiting ++ event_of_immediate placed.event ∷ weave (drop placed.before waiting) immediate

-- the whole list: EL_INPUT_DATA, where it is held, stands directly before the first DataEvent
abbrev pub events_in : Bool → List Enqueued → List PlacedEvent → List Enqueued
events_in false waiting immediate = weave waiting immediate
events_in true waiting immediate = with_input_data (weave waiting immediate)

-- the list that the parts mean
abbrev pub list_of : Bool → Bool → List Scan → List PlacedEvent → EventList
list_of input_data in_error scans immediate =
    record { events = events_in input_data (waiting_in scans in_error) immediate; in_error = in_error }

-- how many waiting events are before some of the immediate ones
abbrev pub all_before : List PlacedEvent → ℕ
all_before [] = 0
all_before (placed ∷ immediate) = placed.before + all_before immediate

-- how many waiting events are before the first immediate one, or after all if there is none
abbrev pub before_first : List PlacedEvent → ℕ → ℕ
before_first [] behind = behind
before_first (placed ∷ immediate) behind = placed.before

-- the immediate events, with more waiting events before the first of them
abbrev pub lead : ℕ → List PlacedEvent → List PlacedEvent
lead count [] = []
lead count (placed ∷ immediate) = record placed { before = count + placed.before } ∷ immediate

-- the immediate events, with one waiting event less before the first of them
abbrev pub one_less : List PlacedEvent → List PlacedEvent
one_less [] = []
one_less (placed ∷ immediate) = record placed { before = placed.before - 1 } ∷ immediate

-- the first of the immediate events
abbrev pub first_immediate : List PlacedEvent → Option ImmediateEvent
first_immediate [] = None
first_immediate (placed ∷ immediate) = Some placed.event

-- the immediate events without the first: what was before it is before the next
abbrev pub without_first : List PlacedEvent → List PlacedEvent
without_first [] = []
without_first (placed ∷ immediate) = lead placed.before immediate

-- the events alone
abbrev pub immediate_events : List PlacedEvent → List Enqueued
immediate_events immediate = map (λ (placed : PlacedEvent). event_of_immediate placed.event) immediate

-- The counts are those of the list, and EL_INPUT_DATA is held only in the input error state, before some scan.
pub record Fits (input_data in_error : Bool) (scans : List Scan) (immediate : List PlacedEvent)
    (behind : ℕ) : Type 0 where
  pub counted : all_before immediate + behind ≡ length (waiting_in scans in_error)
  pub error : IsTrue input_data → IsTrue in_error
  pub held : IsTrue input_data → 0 < length scans

-- an error of output
abbrev pub is_error : ImmediateEvent → Bool
is_error (immediate_event.Status status) = false
is_error (immediate_event.OutputError code extended) = true
is_error (immediate_event.Complete id) = false

-- the immediate events without errors of output, if so many waiting events are before them besides
abbrev pub without_errors : ℕ → List PlacedEvent → List PlacedEvent
without_errors count [] = []
without_errors count (placed ∷ immediate) =
    if is_error placed.event then without_errors (count + placed.before) immediate
    else record { before = count + placed.before; event = placed.event } ∷ without_errors 0 immediate
