-- What one more event does to the list of a queue.
use Rattle.pos_events.proofs.Common.{Bool, Data, Enqueued, Fits, List, PlacedEvent, Scan, ImmediateEvent, []}
use Rattle.pos_events.proofs.Common.{all_before, append_assoc, arith, drop, drop-append-le, drop-nil, drop_all}
use Rattle.pos_events.proofs.Common.{events_in, false, input_error, input_failed, is_data, length, length-drop}
use Rattle.pos_events.proofs.Common.{length-map, list_of, map, map-append, nat_tests, not, refl, scanned}
use Rattle.pos_events.proofs.Common.{take-append-le, take-nil, take_all, event_of_immediate, true, weave}
use Rattle.pos_events.proofs.Common.{with_input_data, ℕ, ◌++◌, ◌+◌, ◌==◌, ◌∷◌, ◌≡◌, ◌≤◌}
use Rattle.pos_events.proofs.ImmediateLemmas.{all_before-append}
use Rattle.pos_service.specs.declared.event.Locus.TheVariants as locus

-- an event that doesn't wait, behind the others
weave_push : (waiting : List Enqueued) (immediate : List PlacedEvent) (placed : PlacedEvent)
    → all_before immediate + placed.before ≡ length waiting
    → weave waiting (immediate ++ placed ∷ []) ≡ weave waiting immediate ++ event_of_immediate placed.event ∷ []
weave_push waiting [] placed e = grind (arith, take_all, drop_all)
weave_push waiting (first ∷ immediate) placed e =
    grind (arith, weave_push (drop first.before waiting) immediate placed, length-drop, append_assoc)

-- one more waiting event, behind all
weave_more : (waiting : List Enqueued) (immediate : List PlacedEvent) (event : Enqueued)
    → all_before immediate ≤ length waiting
    → weave (waiting ++ event ∷ []) immediate ≡ weave waiting immediate ++ event ∷ []
weave_more waiting [] event h = refl
weave_more waiting (first ∷ immediate) event h = grind (
  arith,
  take-append-le,
  drop-append-le,
  weave_more (drop first.before waiting) immediate event,
  length-drop,
  append_assoc,
)

-- an event that is no DataEvent, behind the others
with_input_data_push : (events : List Enqueued) (event : Enqueued) → is_data event ≡ false
    → with_input_data (events ++ event ∷ []) ≡ with_input_data events ++ event ∷ []
with_input_data_push [] event e = grind arith
with_input_data_push (first ∷ events) event e = grind (arith, with_input_data_push events event e)

-- an event that doesn't wait, behind the whole list
pub events_push : (input_data : Bool) (waiting : List Enqueued) (immediate : List PlacedEvent) (placed : PlacedEvent)
    → all_before immediate + placed.before ≡ length waiting → events_in input_data waiting
    (immediate ++ placed ∷ []) ≡ events_in input_data waiting immediate ++ event_of_immediate placed.event ∷ []
events_push input_data waiting immediate placed e = grind (arith, weave_push, with_input_data_push)

-- the parts fit with an event that doesn't wait behind the whole list
pub fits_push : (input_data in_error : Bool) (scans : List Scan) (immediate : List PlacedEvent) (behind : ℕ)
    (event : ImmediateEvent) → Fits input_data in_error scans immediate behind
    → Fits input_data in_error scans (immediate ++ record { before = behind; event = event } ∷ []) 0
fits_push input_data in_error scans immediate behind event fits = grind (arith, all_before-append)

-- one more scan, outside the input error state
pub one_more_scan : {input_data in_error : Bool} {scans : List Scan} {immediate : List PlacedEvent} {behind : ℕ}
    (scan : Scan) → Fits input_data in_error scans immediate behind → in_error ≡ false → list_of input_data in_error
    (scans ++ scan ∷ []) immediate ≡ scanned scan (list_of input_data in_error scans immediate)
one_more_scan {scans} {immediate} scan fits none = grind (
  arith,
  map-append Data scans (scan ∷ []),
  weave_more (map Data scans) immediate (Data scan),
  length-map scans Data,
  fits.error,
)

-- without scans, EL_INPUT_DATA has no place
no_place : (immediate : List PlacedEvent) → with_input_data (weave [] immediate) ≡ weave [] immediate
no_place [] = refl
no_place (placed ∷ immediate) = grind (arith, take-nil, drop-nil, no_place immediate)

-- an input error: EL_INPUT_DATA is held where there is a scan
failed : (input_data some : Bool) (scans : List Scan) (immediate : List PlacedEvent) (behind : ℕ)
    → Fits input_data false scans immediate behind → some ≡ not (length scans == 0)
    → events_in some (map Data scans ++ input_error locus.Input ∷ []) immediate
    ≡ with_input_data (events_in input_data (map Data scans) immediate) ++ input_error locus.Input ∷ []
failed input_data some [] immediate behind fits e =
    grind (arith, no_place, weave_more [] immediate (input_error locus.Input), fits.error)
failed input_data some (scan ∷ scans) immediate behind fits e =
    let count = length-map (scan ∷ scans) Data in
    grind (
      arith,
      nat_tests,
      weave_more (map Data (scan ∷ scans)) immediate (input_error locus.Input),
      count,
      with_input_data_push,
      fits.error,
    )

pub one_more_error : (input_data : Bool) {in_error no_scans : Bool} {count : ℕ} {scans : List Scan}
    {immediate : List PlacedEvent} {behind : ℕ} → Fits input_data in_error scans immediate behind → in_error ≡ false
    → no_scans ≡ (count == 0) → count ≡ length scans
    → list_of (not no_scans) true scans immediate ≡ input_failed (list_of input_data in_error scans immediate)
one_more_error input_data {no_scans} {scans} {immediate} {behind} fits none e n =
    grind (arith, failed input_data (not no_scans) scans immediate behind)
