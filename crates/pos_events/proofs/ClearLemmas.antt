-- What a deletion does to the list of a queue.
use Rattle.pos_events.proofs.Common.{All, All-drop, All-head, All-tail, All-take, All-weaker, Bool, Enqueued, List}
use Rattle.pos_events.proofs.Common.{PlacedEvent, Scan, [], arith, drop, drop-nil, events_in, false, filter}
use Rattle.pos_events.proofs.Common.{filter-append, input_cleared, is_output_error, is_waiting, list_of, not}
use Rattle.pos_events.proofs.Common.{output_cleared, refl, take, take-append-drop, take-nil, immediate_events, true}
use Rattle.pos_events.proofs.Common.{waiting_in, weave, with_input_data, without_errors, ℕ, ◌++◌, ◌+◌, ◌∷◌, ◌≡◌}
use Rattle.pos_events.proofs.DeliveryLemmas.{IsWaiting, all_wait, regroup}

-- the test of an event that stays when input is deleted, and when output is
abbrev is_told : Enqueued → Bool
is_told event = not (is_waiting event)

abbrev is_kept : Enqueued → Bool
is_kept event = not (is_output_error event)

-- without waiting events the list is that of the others
pub only_told : (immediate : List PlacedEvent) → weave [] immediate ≡ immediate_events immediate
only_told [] = refl
only_told (placed ∷ immediate) = grind (arith, take-nil, drop-nil, only_told immediate)

-- the waiting events go
none_told : (events : List Enqueued) → All IsWaiting events → filter is_told events ≡ []
none_told [] w = refl
none_told (event ∷ events) w =
    rw (All-head IsWaiting event events w, none_told events (All-tail IsWaiting event events w))

weave_filtered : (waiting : List Enqueued) (immediate : List PlacedEvent) → All IsWaiting waiting
    → filter is_told (weave waiting immediate) ≡ immediate_events immediate
weave_filtered waiting [] w = none_told waiting w
weave_filtered waiting (placed ∷ immediate) w =
    let front = none_told (take placed.before waiting) (All-take IsWaiting placed.before waiting w) in
    let rest = weave_filtered (drop placed.before waiting) immediate (All-drop IsWaiting placed.before waiting w) in
    grind (arith, filter-append, front, rest)

input_data_filtered : (events : List Enqueued) → filter is_told (with_input_data events) ≡ filter is_told events
input_data_filtered [] = refl
input_data_filtered (event ∷ events) = grind (arith, input_data_filtered events)

all_filtered : (input_data in_error : Bool) (scans : List Scan) (immediate : List PlacedEvent)
    → filter is_told (events_in input_data (waiting_in scans in_error) immediate) ≡ immediate_events immediate
all_filtered input_data in_error scans immediate =
    grind (arith, input_data_filtered, weave_filtered (waiting_in scans in_error) immediate (all_wait scans in_error))

pub input_deleted : (input_data in_error : Bool) (scans none : List Scan) (immediate after : List PlacedEvent)
    → none ≡ [] → immediate_events after ≡ immediate_events immediate
    → list_of false false none after ≡ input_cleared (list_of input_data in_error scans immediate)
input_deleted input_data in_error scans none immediate after e same =
    rw (e, only_told after, same, all_filtered input_data in_error scans immediate)

-- a waiting event is no error of output
abbrev IsKept : Enqueued → Type 0
IsKept event = is_kept event ≡ true

all_stay : (events : List Enqueued) → All IsKept events → filter is_kept events ≡ events
all_stay [] k = refl
all_stay (event ∷ events) k = rw (All-head IsKept event events k, all_stay events (All-tail IsKept event events k))

-- the list without errors of output, when so many waiting events stand before the others besides
errors_woven : (waiting : List Enqueued) (immediate : List PlacedEvent) (count : ℕ) → All IsKept waiting
    → filter is_kept (take count waiting ++ weave (drop count waiting) immediate) ≡ weave waiting
    (without_errors count immediate)
errors_woven waiting [] count k = rw (take-append-drop count waiting) (all_stay waiting k)
errors_woven waiting (placed ∷ immediate) count k =
    let n = count + placed.before in
    let kept = errors_woven (drop n waiting) immediate 0 (All-drop IsKept n waiting k) in
    let front = all_stay (take n waiting) (All-take IsKept n waiting k) in
    grind (arith, regroup, filter-append, errors_woven waiting immediate n k, front, kept)

-- EL_INPUT_DATA stays
input_data_stays : (events : List Enqueued)
    → filter is_kept (with_input_data events) ≡ with_input_data (filter is_kept events)
input_data_stays [] = refl
input_data_stays (event ∷ events) = grind (arith, input_data_stays events)

stays : (in_error : Bool) (scans : List Scan) (immediate : List PlacedEvent) → filter is_kept
    (weave (waiting_in scans in_error) immediate) ≡ weave (waiting_in scans in_error) (without_errors 0 immediate)
stays in_error scans immediate = errors_woven (waiting_in scans in_error) immediate 0
    (All-weaker IsWaiting IsKept (λ event w. grind arith) (waiting_in scans in_error) (all_wait scans in_error))

pub errors_deleted : (input_data in_error : Bool) (scans : List Scan) (immediate after : List PlacedEvent)
    → after ≡ without_errors 0 immediate
    → list_of input_data in_error scans after ≡ output_cleared (list_of input_data in_error scans immediate)
errors_deleted input_data in_error scans immediate after e = grind (arith, input_data_stays, stays)
