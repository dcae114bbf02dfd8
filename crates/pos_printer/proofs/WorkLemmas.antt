-- Work on the request of the control that holds a printer.
use Rattle.std.proofs.Common.{◌≡◌, ◌∙◌, ℕ, ◌<◌, ◌≤◌, Bool, true, cond, List, All, Ok, get_or, set, length, ap, arith}
use Rattle.std.proofs.Common.{refl, subst, sym}
use Rattle.std.proofs.lemmas.List.{length-map, map-set}
use Rattle.std.proofs.lemmas.Option.{get_or_from_slice_get, slice_get-get_or, slice_get-map, slice_get_within}
use Rattle.std.proofs.lemmas.Option.{MatchOption-at_some, option_and_then_some}
use Rattle.std.specs.Option.{option_and_then, option_map}
use Rattle.std.specs.Prelude.{Option, Some, None, Result, IsTrue, MatchOption, is_some, slice_get, slice_set}
use Rattle.pos_service.specs.declared.faults.NoMemory.{NoMemory}
use Rattle.pos_service.specs.declared.order.Order.{Order}
use Rattle.pos_service.specs.declared.signs.Signs.{Signs}
use Rattle.pos_service.specs.declared.answer.WorkResult.{WorkResult}
use Rattle.pos_service.specs.declared.answer.WorkResult.TheVariants as worked
use Rattle.pos_service.specs.Codes.{code_by, extended_by}
use Rattle.pos_service.specs.Controls.{Control, all_listening, completed, if_listening, listens, output_failed}
use Rattle.pos_service.specs.declared.order.Reply.{Reply}
use Rattle.pos_service.specs.declared.order.Reply.TheVariants as reply
use Rattle.pos_service.specs.Actions.{Ordered}
use Rattle.pos_service.specs.Kinds.{is_printer}
use Rattle.pos_service.specs.Output.{request_to_do}
use Rattle.pos_service.specs.Peripherals.{Asked, PeripheralState, signs_of}
use Rattle.pos_common.specs.DueRequests.{first_request}
use Rattle.pos_printer.specs.PrinterCalls.{after_work, worked_by, WorksAt}
use Rattle.pos_service.specs.Hardware.{hardware_of}
use Rattle.pos_service.specs.Statuses.{heard_signs}
use Rattle.pos_common.specs.KeptControls.{KeptControl, HasRoom, controls_of, work_events}
use Rattle.pos_common.proofs.KeptLemmas.{control_at}
use Rattle.pos_printer.specs.Requests.{HasRequest}
use Rattle.pos_printer.proofs.OrderLemmas.{heard_of, ordered_done, ordered_undone}

-- the request to do is the one that is done
of_request : (o : Option (ℕ × Order)) (id i : ℕ) (old new : List Control) (control : Control)
    → option_map (λ (request : ℕ × Order). request.0) o ≡ Some id → new ≡ slice_set old i (completed id control)
    → MatchOption o ⊥
    (λ request. (worked.Done id ≡ worked.Done request.0) × (new ≡ slice_set old i (completed request.0 control)))
of_request o id i old new control is h = grind arith

-- a held control whose request is done is a change of the machine's control
pub completed_in : (hs : List KeptControl) (i : ℕ) (d g : KeptControl) (id : ℕ) → i < length hs
    → option_map (λ (request : ℕ × Order). request.0) (request_to_do (get_or hs i d).control.writer.output) ≡ Some id
    → g.control ≡ completed id (get_or hs i d).control → MatchOption (slice_get (controls_of hs) i) ⊥
    (λ control. MatchOption (request_to_do control.writer.output) ⊥ (λ request. (worked.Done id ≡ worked.Done request.0)
    × (controls_of (set hs i g) ≡ slice_set (controls_of hs) i (completed request.0 control))))
completed_in hs i d g id lt is done =
    let within : i < length (controls_of hs) = omega (arith, length-map hs (λ (h : KeptControl). h.control)) in
    rw (slice_get-get_or (controls_of hs) i d.control within, ← control_at hs i d d.control lt)
    (of_request (request_to_do (get_or hs i d).control.writer.output) id i (controls_of hs) (controls_of (set hs i g))
    (get_or hs i d).control is (map-set (λ (h : KeptControl). h.control) hs i g ∙ ap (set (controls_of hs) i) done))

-- The control with a number has this request to do at a place.
pub record IsFirst (place holder : ℕ) (request : ℕ × Order) (controls : List Control) : Type 0 where
  pub control : Control
  pub there : slice_get controls holder ≡ Some control
  pub first : first_request place control ≡ Some request

some_of : {A : Type 0} (o : Option A) → is_some o ≡ true → (x : A) × (o ≡ Some x)
some_of None is = absurd cc
some_of (Some x) is = (x, refl)

-- there is such a request
pub first_found : (place holder : ℕ) (cs : List Control)
    → is_some (option_and_then (first_request place) (slice_get cs holder)) ≡ true
    → (request : ℕ × Order) × IsFirst place holder request cs
first_found place holder cs h =
    let found = some_of (option_and_then (first_request place) (slice_get cs holder)) h in
    option_and_then_some (first_request place) (slice_get cs holder) found.0 found.1
    (λ control there first. (found.0, record { control = control; there = there; first = first }))

first_of : (b : Bool) (o : Option (ℕ × Order)) (request : ℕ × Order) → cond b o None ≡ Some request
    → (o ≡ Some request) × (b ≡ true)
first_of b o request is = grind arith

-- it still is once the controls have heard
pub first_heard : (place holder : ℕ) (request : ℕ × Order) (u v : Signs) (old new : List Control)
    → IsFirst place holder request old → new ≡ all_listening place (heard_signs u v) old
    → IsFirst place holder request new
first_heard place holder request u v old new f is = record {
  control = if_listening place (heard_signs u v) f.control;
  there = rw (is, slice_get-map (if_listening place (heard_signs u v)) old holder, f.there);
  first = grind arith;
}

-- the control as it is held
pub first_held : (place holder : ℕ) (request : ℕ × Order) (hs : List KeptControl) (d : KeptControl)
    (f : IsFirst place holder request (controls_of hs))
    → (holder < length hs) × ((get_or hs holder d).control ≡ f.control)
first_held place holder request hs d f =
    let long = slice_get_within (controls_of hs) holder f.control f.there in
    let within : holder < length hs = omega (arith, long, length-map hs (λ (h : KeptControl). h.control)) in (
      within,
      control_at hs holder d d.control within
          ∙ get_or_from_slice_get (controls_of hs) holder f.control d.control f.there,
    )

-- there is room for the event that it has then
pub has_request : (place holder count : ℕ) (request : ℕ × Order) (hs : List KeptControl)
    → IsFirst place holder request (controls_of hs) → 1 ≤ count → All (HasRoom place count) hs → HasRequest holder hs
has_request place holder count request hs f most room =
    let d : KeptControl = record { control = f.control; spare = 0 } in
    let held = first_held place holder request hs d f in
    let listening = first_of (listens place f.control) (request_to_do f.control.writer.output) request f.first in
    let is = ap (λ (x : Control). request_to_do x.writer.output) held.1 ∙ listening.0 in
    let spare = room holder d held.0 (subst (λ (x : Control). IsTrue (listens place x)) (sym held.1) listening.1) in
    rw (slice_get-get_or hs holder d held.0) (grind (arith, is), omega (arith, most, spare))

-- the order that the printer is given is that of the request
pub first_asked : (place holder : ℕ) (request : ℕ × Order) (hs : List KeptControl) (d : KeptControl)
    (outcome : Result Reply NoMemory) (s t : PeripheralState) → IsFirst place holder request (controls_of hs)
    → MatchOption (first_request place (get_or hs holder d).control) ⊥ (λ r. Asked s r.1 outcome t)
    → Asked s request.1 outcome t
first_asked place holder request hs d outcome s t f asked =
    let held = first_held place holder request hs d f in
    MatchOption-at_some ⊥ (λ (r : ℕ × Order). Asked s r.1 outcome t) request
    (ap (first_request place) held.1 ∙ f.first) asked

-- what is done with the request
pub first_done : (place holder : ℕ) (request : ℕ × Order) (mid new : List Control) (result : WorkResult)
    → IsFirst place holder request mid
    → MatchOption (slice_get mid holder) ⊥ (λ control. MatchOption (request_to_do control.writer.output) ⊥
    (λ r. (result ≡ worked.Done r.0) × (new ≡ slice_set mid holder (completed r.0 control))))
    → (result ≡ worked.Done request.0)
    × MatchOption (slice_get mid holder) ⊥ (λ control. new ≡ slice_set mid holder (completed request.0 control))
first_done place holder request mid new result f h =
    grind (arith, first_of (listens place f.control) (request_to_do f.control.writer.output) request f.first)

-- what there is of a request to do: room for its event
pub room_for_first : (place holder : ℕ) (old : List Control) (hs : List KeptControl)
    → is_some (option_and_then (first_request place) (slice_get old holder)) ≡ true → controls_of hs ≡ old
    → All (HasRoom place work_events) hs → HasRequest holder hs
room_for_first place holder old hs found same room =
    let f = first_found place holder old found in
    has_request place holder work_events f.0 hs (subst (IsFirst place holder f.0) (sym same) f.1) (omega arith) room

-- what is said of a request that the printer doesn't do, and what becomes of its control
undone_said : (said : Reply) → (said ≡ reply.Done → ⊥) → (id holder : ℕ) (result : WorkResult) (old new : List Control)
    → result ≡ worked.Failed (code_by said) (extended_by said) → MatchOption (slice_get old holder) ⊥
    (λ control. new ≡ slice_set old holder (output_failed (code_by said) (extended_by said) control))
    → (result ≡ worked_by id said)
    × MatchOption (slice_get old holder) ⊥ (λ control. new ≡ slice_set old holder (after_work id said control))
undone_said said undone id holder result old new answer changed = grind arith

module _ (at : Option ℕ) (holder place : ℕ) (result : WorkResult) (old new : List Control) (hs : List KeptControl)
    (d : KeptControl) (s t : PeripheralState) (is : at ≡ Some holder) (printer : is_printer s.kind ≡ true)
    (found : is_some (option_and_then (first_request place) (slice_get old holder)) ≡ true)
    (same : controls_of hs ≡ old) where
  -- work on a request, by what the printer has said
  works_so : (said : Reply) (mid : List Control) (request : ℕ × Order) → IsFirst place holder request old
      → Ordered request.1 place said old (hardware_of s) mid (hardware_of t) → result ≡ worked_by request.0 said
      → MatchOption (slice_get mid holder) ⊥ (λ control. new ≡ slice_set mid holder (after_work request.0 said control))
      → WorksAt at place (Ok result) old (hardware_of s) new (hardware_of t)
  works_so said mid request first ordered answered changed = rw (is, printer, first.there, first.first)
      (record { said = said; controls = mid; ordered = ordered; worked = changed; answer = answered })

  -- on a request that it does
  pub does : (mid : List Control) (a b : Signs)
      → MatchOption (first_request place (get_or hs holder d).control) ⊥ (λ r. Asked s r.1 (Ok reply.Done) t)
      → a ≡ signs_of s.kind s.plant → b ≡ signs_of t.kind t.plant
      → mid ≡ all_listening place (heard_signs a b) (controls_of hs)
      → MatchOption (slice_get mid holder) ⊥ (λ control. MatchOption (request_to_do control.writer.output) ⊥
      (λ r. (result ≡ worked.Done r.0) × (new ≡ slice_set mid holder (completed r.0 control))))
      → WorksAt at place (Ok result) old (hardware_of s) new (hardware_of t)
  does mid a b asked was now said done =
      let heard_all = heard_of place s t a b old (controls_of hs) mid was now same said in
      let (request, first) = first_found place holder old found in
      let given = first_asked place holder request hs d (Ok reply.Done) s t
      (subst (IsFirst place holder request) (sym same) first) asked in
      let still =
      first_heard place holder request (signs_of s.kind s.plant) (signs_of t.kind t.plant) old mid first heard_all in
      let (answered, changed) = first_done place holder request mid new result still done in
      works_so reply.Done mid request first (ordered_done request.1 place s t old mid given heard_all) answered changed

  -- on a request that it doesn't do
  pub fails : (said : Reply) → (said ≡ reply.Done → ⊥)
      → MatchOption (first_request place (get_or hs holder d).control) ⊥ (λ r. Asked s r.1 (Ok said) t)
      → result ≡ worked.Failed (code_by said) (extended_by said) → MatchOption (slice_get (controls_of hs) holder) ⊥
      (λ control. new ≡ slice_set (controls_of hs) holder (output_failed (code_by said) (extended_by said) control))
      → WorksAt at place (Ok result) old (hardware_of s) new (hardware_of t)
  fails said undone asked answer changed =
      let (request, first) = first_found place holder old found in
      let given = first_asked place holder request hs d (Ok said) s t
      (subst (IsFirst place holder request) (sym same) first) asked in
      let (answered, left) = undone_said said undone request.0 holder result old new answer (rw same at changed) in
      works_so said old request first (ordered_undone said undone request.1 place s t old given) answered left
