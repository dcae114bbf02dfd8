-- Whether an event of a queue's list may be delivered.
use Rattle.pos_events.proofs.Common.{Bool, Enqueued, List, PlacedEvent, Scan, [], arith, drop, events_in, false, length}
use Rattle.pos_events.proofs.Common.{not, refl, split, take, event_of_immediate, true, waiting_in, weave}
use Rattle.pos_events.proofs.Common.{with_input_data, ◌++◌, ◌<◌, ◌==◌, ◌∷◌, ◌≡◌}
use Rattle.pos_events.proofs.DeliveryLemmas.{deliverable_told}
use Rattle.std.specs.Prelude.{is_some}

-- some event of the list may be delivered
abbrev is_there : Bool → List Enqueued → Bool
is_there data_enabled events = is_some (split data_enabled events).deliverable

there_before : (front rest : List Enqueued) (event : Enqueued) → is_there true (front ++ event ∷ rest) ≡ true
there_before [] rest event = refl
there_before (first ∷ front) rest event = refl

-- EL_INPUT_DATA comes before an event that is there already
with_input_data_there : (events : List Enqueued) → is_there true (with_input_data events) ≡ is_there true events
with_input_data_there [] = refl
with_input_data_there (event ∷ events) = grind arith

-- an event that doesn't wait may be delivered
pub told_there : (data_enabled input_data in_error : Bool) (scans : List Scan) (immediate : List PlacedEvent)
    → 0 < length immediate → is_there data_enabled (events_in input_data (waiting_in scans in_error) immediate) ≡ true
told_there data_enabled input_data in_error scans [] some = grind arith
told_there false input_data in_error scans (placed ∷ immediate) some = grind (arith, deliverable_told)
told_there true input_data in_error scans (placed ∷ immediate) some =
    let waiting = waiting_in scans in_error in
    grind (
      arith,
      with_input_data_there,
      there_before (take placed.before waiting) (weave (drop placed.before waiting) immediate)
          (event_of_immediate placed.event),
    )

-- events that wait may not, while data events aren't enabled
pub waiting_there : (input_data in_error : Bool) (scans : List Scan) (immediate : List PlacedEvent)
    → length immediate ≡ 0 → is_there false (events_in input_data (waiting_in scans in_error) immediate) ≡ false
waiting_there input_data in_error scans [] none = grind (arith, deliverable_told)
waiting_there input_data in_error scans (placed ∷ immediate) none = grind arith

-- EL_INPUT may, while they are
pub error_there : (input_data : Bool) (scans : List Scan) (immediate : List PlacedEvent) → length immediate ≡ 0
    → is_there true (events_in input_data (waiting_in scans true) immediate) ≡ true
error_there input_data [] [] none = grind (arith, with_input_data_there)
error_there input_data (scan ∷ scans) [] none = grind (arith, with_input_data_there)
error_there input_data scans (placed ∷ immediate) none = grind arith

-- and so may a DataEvent, which is all that is there without an error
pub data_there : (input_data : Bool) (scans : List Scan) (immediate : List PlacedEvent) → length immediate ≡ 0
    → is_there true (events_in input_data (waiting_in scans false) immediate) ≡ not (length scans == 0)
data_there input_data [] [] none = grind (arith, with_input_data_there)
data_there input_data (scan ∷ scans) [] none = grind (arith, with_input_data_there)
data_there input_data scans (placed ∷ immediate) none = grind arith

pub ruleset there = (told_there, waiting_there, error_there, data_there)
