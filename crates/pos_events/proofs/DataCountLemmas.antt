-- How many DataEvents the list of a queue has.
use Rattle.pos_events.proofs.Common.{Bool, Data, Enqueued, List, PlacedEvent, Scan, [], arith, cond, count_by, drop}
use Rattle.pos_events.proofs.Common.{events_in, false, input_error, is_data, length, map, refl, take}
use Rattle.pos_events.proofs.Common.{event_of_immediate, true, waiting_in, weave, with_input_data, ℕ, ◌+◌, ◌∙◌, ◌∷◌}
use Rattle.pos_events.proofs.Common.{◌≡◌}
use Rattle.std.proofs.lemmas.List.Sums.{sum_by-append, sum_by-take-drop}
use Rattle.pos_service.specs.declared.event.Locus.TheVariants as locus

-- what an event counts
abbrev worth : Enqueued → ℕ
worth event = cond (is_data event) 1 0

count_cons : (event : Enqueued) (events : List Enqueued)
    → count_by is_data (event ∷ events) ≡ count_by is_data (event ∷ []) + count_by is_data events
count_cons event events = sum_by-append worth (event ∷ []) events

count_weave : (waiting : List Enqueued) (immediate : List PlacedEvent)
    → count_by is_data (weave waiting immediate) ≡ count_by is_data waiting
count_weave waiting [] = refl
count_weave waiting (placed ∷ immediate) =
    let rest = drop placed.before waiting in
    let parts =
    sum_by-append worth (take placed.before waiting) (event_of_immediate placed.event ∷ weave rest immediate) in
    grind (
      arith,
      parts,
      count_cons (event_of_immediate placed.event) (weave rest immediate),
      count_weave rest immediate,
      sum_by-take-drop worth waiting placed.before,
    )

count_with_input_data : (events : List Enqueued) → count_by is_data (with_input_data events) ≡ count_by is_data events
count_with_input_data [] = refl
count_with_input_data (event ∷ events) = grind (arith, count_cons, count_with_input_data events)

count_scans : (scans : List Scan) → count_by is_data (map Data scans) ≡ length scans
count_scans [] = refl
count_scans (scan ∷ scans) = count_cons (Data scan) (map Data scans) ∙ omega (arith, count_scans scans)

count_waiting : (scans : List Scan) (in_error : Bool) → count_by is_data (waiting_in scans in_error) ≡ length scans
count_waiting scans false = count_scans scans
count_waiting scans true = sum_by-append worth (map Data scans) (input_error locus.Input ∷ [])
    ∙ omega (arith, count_scans scans)

-- DataCount is the number of scans
pub count_events : (input_data in_error : Bool) (scans : List Scan) (immediate : List PlacedEvent)
    → count_by is_data (events_in input_data (waiting_in scans in_error) immediate) ≡ length scans
count_events input_data in_error scans immediate = grind (arith, count_with_input_data, count_weave, count_waiting)
