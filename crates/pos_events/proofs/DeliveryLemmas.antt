-- Which event of a queue's list may be delivered, and what is left.
use Rattle.pos_events.proofs.Common.{All, All-append, All-cons, All-head, All-nil, All-tail, All-take, Bool, Data}
use Rattle.pos_events.proofs.Common.{Enqueued, EventList, Fits, IsSome, List, None, Option, PlacedEvent, Scan, Some, []}
use Rattle.pos_events.proofs.Common.{after_reply, ap, append-nil, append_assoc, arith, before_first, delivered, drop}
use Rattle.pos_events.proofs.Common.{drop-drop, events_in, false, first_immediate, input_error, is_waiting, lead}
use Rattle.pos_events.proofs.Common.{left_by, map, one_less, option_map, refl, split, suc, take, take-add}
use Rattle.pos_events.proofs.Common.{take-append-drop, event_of_immediate, true, waiting_in, weave, with_input_data}
use Rattle.pos_events.proofs.Common.{without_first, ℕ, ◌++◌, ◌+◌, ◌-◌, ◌<◌, ◌∷◌, ◌≡◌, ◌≢◌}
use Rattle.pos_events.specs.Waiting.{first_waiting}
use Rattle.pos_service.specs.declared.event.ErrorReply.{ErrorReply}
use Rattle.std.specs.Option.{option_to_list}
use Rattle.pos_service.specs.declared.event.Locus.TheVariants as locus
use Rattle.pos_events.specs.declared.queue.Waiting.TheVariants as waiting

-- it waits
abbrev pub IsWaiting : Enqueued → Type 0
IsWaiting event = is_waiting event ≡ true

-- scans and EL_INPUT wait
scans_wait : (scans : List Scan) → All IsWaiting (map Data scans)
scans_wait [] = All-nil IsWaiting
scans_wait (scan ∷ scans) = All-cons IsWaiting (Data scan) (map Data scans) refl (scans_wait scans)

pub all_wait : (scans : List Scan) (in_error : Bool) → All IsWaiting (waiting_in scans in_error)
all_wait scans false = scans_wait scans
all_wait scans true = All-append IsWaiting (map Data scans) (input_error locus.Input ∷ []) (scans_wait scans)
    (All-cons IsWaiting (input_error locus.Input) [] refl (All-nil IsWaiting))

-- a list whose first events wait
split_behind : (front rest : List Enqueued) (event : Enqueued) → All IsWaiting front → is_waiting event ≡ false
    → split false (front ++ event ∷ rest) ≡ record { front = front; deliverable = Some event; rest = rest }
split_behind [] rest event w goes = rw goes
split_behind (first ∷ front) rest event w goes =
    grind (arith, All-head, split_behind front rest event (All-tail IsWaiting first front w) goes)

split_none : (events : List Enqueued) → All IsWaiting events
    → split false events ≡ record { front = events; deliverable = None; rest = [] }
split_none [] w = refl
split_none (first ∷ events) w =
    rw (All-head IsWaiting first events w, split_none events (All-tail IsWaiting first events w))

-- EL_INPUT_DATA waits, and stays in its place
deliverable_with_input_data : (events : List Enqueued)
    → (split false (with_input_data events)).deliverable ≡ (split false events).deliverable
deliverable_with_input_data [] = refl
deliverable_with_input_data (event ∷ events) = grind (arith, deliverable_with_input_data events)

left_with_input_data : (events : List Enqueued)
    → left_by false (with_input_data events) ≡ with_input_data (left_by false events)
left_with_input_data [] = refl
left_with_input_data (event ∷ events) = grind (arith, left_with_input_data events)

-- the waiting events before an event and those before them, as one part
pub regroup : (waiting : List Enqueued) (immediate : List PlacedEvent) (count before : ℕ) (event : Enqueued)
    → take count
    waiting ++ (take before (drop count waiting) ++ event ∷ weave (drop before (drop count waiting)) immediate)
    ≡ take (count + before) waiting ++ event ∷ weave (drop (count + before) waiting) immediate
regroup waiting immediate count before event =
    rw (take-add count before waiting, ← drop-drop before count waiting, append_assoc)

-- what stood before an event that is gone stands before the next
weave_lead : (waiting : List Enqueued) (immediate : List PlacedEvent) (count : ℕ)
    → take count waiting ++ weave (drop count waiting) immediate ≡ weave waiting (lead count immediate)
weave_lead waiting [] count = take-append-drop count waiting
weave_lead waiting (placed ∷ immediate) count =
    regroup waiting immediate count placed.before (event_of_immediate placed.event)

-- the first event that doesn't wait
deliverable_woven : (waiting : List Enqueued) (immediate : List PlacedEvent) → All IsWaiting waiting
    → (split false (weave waiting immediate)).deliverable ≡ option_map event_of_immediate (first_immediate immediate)
deliverable_woven waiting [] w = rw (split_none waiting w)
deliverable_woven waiting (placed ∷ immediate) w =
    grind (arith, split_behind, All-take IsWaiting placed.before waiting w)

left_woven : (waiting : List Enqueued) (immediate : List PlacedEvent) → All IsWaiting waiting
    → left_by false (weave waiting immediate) ≡ weave waiting (without_first immediate)
left_woven waiting [] w = rw (split_none waiting w) (append-nil waiting)
left_woven waiting (placed ∷ immediate) w =
    grind (arith, split_behind, All-take IsWaiting placed.before waiting w, weave_lead)

pub deliverable_told : (input_data in_error : Bool) (scans : List Scan) (immediate : List PlacedEvent)
    → (split false (events_in input_data (waiting_in scans in_error) immediate)).deliverable
    ≡ option_map event_of_immediate (first_immediate immediate)
deliverable_told input_data in_error scans immediate = grind (
  arith,
  deliverable_with_input_data,
  deliverable_woven (waiting_in scans in_error) immediate (all_wait scans in_error),
)

pub left_by_told : (input_data in_error : Bool) (scans : List Scan) (immediate : List PlacedEvent)
    → left_by false (events_in input_data (waiting_in scans in_error) immediate) ≡ events_in input_data
    (waiting_in scans in_error) (without_first immediate)
left_by_told input_data in_error scans immediate =
    grind (arith, left_with_input_data, left_woven (waiting_in scans in_error) immediate (all_wait scans in_error))

pub ruleset telling = (deliverable_told, left_by_told)

-- no reply to an event that doesn't wait changes the events
told_stays : (events : List Enqueued) (answer : ErrorReply) (list : EventList)
    → after_reply (split false events).deliverable answer list ≡ list
told_stays [] answer list = refl
told_stays (event ∷ events) answer list = grind (arith, told_stays events answer list)

-- where something waits before the others, it is the first
first_waits : (event : Enqueued) (waiting : List Enqueued) (immediate : List PlacedEvent) (behind : ℕ)
    → 0 < before_first immediate behind → weave (event ∷ waiting) immediate ≡ event ∷ weave waiting (one_less immediate)
first_waits event waiting [] behind some = refl
first_waits event waiting (placed ∷ immediate) behind some =
    let next : placed.before ≡ suc (placed.before - 1) = omega arith in
    rw (ap (λ n. take n (event ∷ waiting)) next, ap (λ n. drop n (event ∷ waiting)) next)

waiting_first : (scan : Scan) (scans : List Scan) (in_error : Bool)
    → waiting_in (scan ∷ scans) in_error ≡ Data scan ∷ waiting_in scans in_error
waiting_first scan scans in_error = grind arith

-- EL_INPUT_DATA is the first
pub first_is_input_data : (input_data in_error no_scans : Bool) (scans : List Scan) (immediate : List PlacedEvent)
    (behind count : ℕ) → Fits input_data in_error scans immediate behind
    → first_waiting input_data no_scans ≡ waiting.InputData → count ≡ before_first immediate behind → count ≢ 0
    → events_in input_data (waiting_in scans in_error) immediate ≡ input_error locus.InputData ∷ events_in false
    (waiting_in scans in_error) immediate
first_is_input_data input_data in_error no_scans [] immediate behind count fits kind is some = grind (arith, fits.held)
first_is_input_data input_data in_error no_scans (scan ∷ scans) immediate behind count fits kind is some =
    grind (arith, waiting_first, first_waits (Data scan) (waiting_in scans in_error) immediate behind)

-- a DataEvent is the first
pub first_is_data : (input_data in_error : Bool) (scan : Scan) (scans rest : List Scan) (immediate : List PlacedEvent)
    (behind count : ℕ) → input_data ≡ false → scans ≡ scan ∷ rest → count ≡ before_first immediate behind → count ≢ 0
    → events_in input_data (waiting_in scans in_error) immediate ≡ Data scan ∷ weave (waiting_in rest in_error)
    (one_less immediate)
first_is_data input_data in_error scan scans rest immediate behind count e s is some =
    grind (arith, waiting_first, first_waits (Data scan) (waiting_in rest in_error) immediate behind)

-- while data events aren't enabled, an event that doesn't wait is delivered, and no reply changes the others
pub delivered_told : (data_enabled frozen : Bool) (answer : ErrorReply) (list : EventList) → frozen ≡ false
    → data_enabled ≡ false
    → delivered data_enabled frozen answer list ≡ record list { events = left_by false list.events }
delivered_told data_enabled frozen answer list f d = grind (arith, told_stays)

-- the first of some scans is there
pub popped_scan : (popped : Option Scan) (scans rest : List Scan) → IsSome popped
    → scans ≡ option_to_list popped ++ rest → (scan : Scan) × (popped ≡ Some scan) × (scans ≡ scan ∷ rest)
popped_scan None scans rest some e = cc
popped_scan (Some scan) scans rest some e = (scan, refl, e)
