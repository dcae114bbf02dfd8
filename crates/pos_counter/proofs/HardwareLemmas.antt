-- What is done at a device and by whom it is held, and the steps that it makes.
use Rattle.pos_counter.proofs.Common.{Answer, At, Call, CallOf, CallsAt, Control, Device, DeviceDoes, Does, DoesOwn}
use Rattle.pos_counter.proofs.Common.{Effect, Err, FindsWork, HardTotals, Hardware, IfSome, IsDoneAt, IsOpenFor}
use Rattle.pos_counter.proofs.Common.{IsServedFor, IsSound, IsTrue, KeptControl, List, Machine, MatchOption}
use Rattle.pos_counter.proofs.Common.{MatchOption-at_some, MayBeCalled, NoMemory, None, NothingChanges, Ok, OnHardware}
use Rattle.pos_counter.proofs.Common.{OpenDevice, Option, Refused, Result, Row, Some, Step, TheTotals, TotalsPart}
use Rattle.pos_counter.proofs.Common.{WorksAt, answered, ap, ap₂, arith, controls_of, device_action, device_rows}
use Rattle.pos_counter.proofs.Common.{due_request_at, false, first_refusal, get_or_from_slice_get, holder_at, holder_in}
use Rattle.pos_counter.proofs.Common.{holder_of, inl, inr, is_common, kind_of, length, machine_with, needs_of}
use Rattle.pos_counter.proofs.Common.{open_place, own_rows, own_takes_memory, place_of, refl, refusals, rules, set}
use Rattle.pos_counter.proofs.Common.{set-get_or, slice_get, slice_get_within, sym, table, takes_memory, with_items_is}
use Rattle.pos_counter.proofs.Common.{ℕ, ◌<◌, ◌∙◌, ◌≡◌}
use Rattle.pos_common.specs.OwnCalls.{OwnCall as OwnCalled, OwnDoes, own_refusals}
use Rattle.pos_service.specs.declared.code.Code.TheVariants.{Closed}
use Rattle.std.specs.Prelude.{Vec}
use Rattle.std.specs.Vec.{with_items}
use Rattle.pos_service.specs.declared.answer.WorkResult.TheVariants as worked
use Rattle.pos_counter.proofs.LiftLemmas.{decided_step, match_cases, matched}
use Rattle.pos_counter.proofs.SoundnessLemmas.{seated}

-- a device whose hardware is as it was
same_device : (ds : List Device) (place : ℕ) (d : Device) (before after : Hardware) → slice_get ds place ≡ Some d
    → d.hardware ≡ Some before → after ≡ before → set ds place (record d { hardware = Some after }) ≡ ds
same_device ds place d before after at is same =
    ap (set ds place) (ap (λ (o : Option Hardware). let y : Device = record d { hardware = o } in y)
    (ap Some same ∙ sym is) ∙ sym (get_or_from_slice_get ds place d d at)) ∙ set-get_or ds place d

-- the device at the place that a control has open has a peripheral, and may be called
pub served_there : {m : Machine} {n : ℕ} {c : Control} (place : ℕ) → IsSound m → slice_get m.controls n ≡ Some c
    → c.device ≡ Some (At place) → MayBeCalled m.devices place m.controls n
served_there {m} {n} {c} place sound found is =
    let (device, there, served) =
    matched (slice_get m.devices place) (IsServedFor c.category c.cursor.place) (rw is at (seated m n c sound found)) in
    let (fits, attached, on_it) = served in
    record {
      attached = rw there attached;
      may = rw (found, there) (record { served = fits; cursor = on_it });
    }

-- A call of a category's own: what it is answered first, what it does, and that it may want memory.
pub record OwnCall (m : Machine) (n : ℕ) (c : Control) (asked : Call) : Type 0 where
  pub rows : refusals m n c asked
      ≡ table n (holder_of m c) c (needs_of c.category asked) (own_rows c.device m n c asked)
  pub does : (r : Answer) (m' : Machine) → DoesOwn c.device m n c asked r m' → Does m n c asked r m'
  pub takes : IsTrue (own_takes_memory asked) → IsTrue (takes_memory m c asked)

pub own_call : (m : Machine) (n : ℕ) (c : Control) (asked : Call) → is_common asked ≡ false → OwnCall m n c asked
own_call m n c asked h = grind arith

-- what the check of the control with a number decides of a call of its category's own
abbrev pub IsLet : Machine → ℕ → Control → Call → Type 0
IsLet m n c asked = (rest : List Row)
    → first_refusal (table n (holder_of m c) c (needs_of c.category asked) rest) ≡ first_refusal rest

-- behind the check the rest of the table decides
pub let_refusals : (m : Machine) (n : ℕ) (c : Control) (asked : Call) → is_common asked ≡ false → IsLet m n c asked
    → first_refusal (refusals m n c asked) ≡ first_refusal (own_rows c.device m n c asked)
let_refusals m n c asked own lets =
    ap first_refusal (own_call m n c asked own).rows ∙ lets (own_rows c.device m n c asked)

-- ---- what is done with what stands at a place

-- controls that were changed in place stand in the same list
pub kept_in_place : {X Z : Type 0} (v : Vec X Z) {lent : List X} (now : List X) → lent ≡ v.items
    → length now ≡ length lent → (with_items v now).items ≡ now
kept_in_place v now is count = with_items_is v now (omega (arith, count, ap length is, v.ok.0))

module _ (hs gs : List KeptControl) (ds es : List Device) (cl : List (Option ℕ)) (tn : Option (List ℕ))
    (part : TotalsPart) (place : ℕ) where
  abbrev old : Machine
  old = machine_with hs cl ds tn part

  abbrev new : Machine
  new = machine_with gs cl es tn part

  -- it is done at the device's hardware
  pub on_hardware : (o : Option ℕ) (Does : ℕ → Effect) → o ≡ Some place → IsDoneAt ds place (Does place) hs gs es
      → OnHardware old o Does new
  on_hardware o Does is done = search rules

  -- what did nothing leaves the machine as it was
  pub unchanged : {Does : Effect} (done : IsDoneAt ds place Does hs gs es)
      → NothingChanges (controls_of hs) done.before (controls_of gs) done.after → new ≡ old
  unchanged done same = search (rules, same_device)

  -- where work finds no memory, the name finds a request that is to be done
  pub want_finds_work : (name : List ℕ) (want : NoMemory) → Some place ≡ place_of ds name
      → IsDoneAt ds place (WorksAt (holder_at cl (Some place)) place (Err want)) hs gs es
      → FindsWork old name × (new ≡ old)
  want_finds_work name want finds done = elim (match_cases (due_request_at done.before.kind place
      (holder_at cl (Some place)) (controls_of hs)) _ _ done.does) [
        | inl x ↦ absurd (let (_, idle) = x in let no : Err want ≡ Ok worked.Idle = idle.0 in cc)
        | inr x ↦ (
          record {
            place = place;
            before = done.before;
            is_at = sym finds;
            is_attached = rw (← finds, done.is_device, done.is_attached);
            work = rw x.1;
          },
          unchanged done x.2,
        )
      ]

  -- a call of a category's own is a step
  pub device_step : (n : ℕ) (c : Control) (asked : Call) (r : Result Answer NoMemory) → is_common asked ≡ false
      → slice_get (controls_of hs) n ≡ Some c → c.device ≡ Some (At place)
      → IsDoneAt ds place (CallsAt n cl asked r) hs gs es → Step old (CallOf n asked) (answered r) new
  device_step n c asked r own found device done =
      by_outcome r (MatchOption-at_some ⊥ (λ control. OwnCalled control.category (device_rows control.category
      (Some done.before.kind) control asked) (device_action control.category (Some done.before.kind) control asked) n cl
      asked r control (controls_of hs) done.before (controls_of gs) done.after) c found done.does)
    where
      kind : kind_of old c ≡ Some done.before.kind
      kind = rw (device, done.is_device, done.kind)

      unrefused : first_refusal (refusals old n c asked) ≡ first_refusal
          (own_refusals c.category (device_rows c.category (Some done.before.kind) c asked) n cl asked c)
      unrefused = ap first_refusal (own_call old n c asked own).rows ∙ rw (device, done.is_device, done.kind) refl

      does_own : (o : Option OpenDevice) (result : Answer) → o ≡ Some (At place)
          → OnHardware old (open_place o) (DeviceDoes c.category (kind_of old c) n c asked result) new
          → DoesOwn o old n c asked result new
      does_own None result is h = absurd cc
      does_own (Some (At at)) result is h = h
      does_own (Some TheTotals) result is h = absurd cc

      at_hardware : (result : Answer) → OwnDoes (device_action c.category (Some done.before.kind) c asked) n result c
          (controls_of hs) done.before (controls_of gs) done.after
          → OnHardware old (open_place c.device) (DeviceDoes c.category (kind_of old c) n c asked result) new
      at_hardware result does =
          let there = ap open_place device in
          let here = MatchOption-at_some ⊥ (λ place'. DeviceDoes c.category (Some done.before.kind) n c asked result
          place' (controls_of hs) done.before (controls_of gs) done.after) place there does in
          on_hardware (open_place c.device) (DeviceDoes c.category (kind_of old c) n c asked result) there
          (let there = rw (← kind) at here in search (done.is_device, done.is_attached, done.kind, there, done.changed))

      by_outcome : (o : Result Answer NoMemory)
          → OwnCalled c.category (device_rows c.category (Some done.before.kind) c asked)
          (device_action c.category (Some done.before.kind) c asked) n cl asked o c (controls_of hs) done.before
          (controls_of gs) done.after → Step old (CallOf n asked) (answered o) new
      by_outcome (Ok result) h = decided_step old new n c asked result _ _ _ found unrefused (unchanged done) (λ does.
          (own_call old n c asked own).does result new (does_own c.device result device (at_hardware result does))) h
      by_outcome (Err want) h = rw found ((own_call old n c asked own).takes h.0, unrefused ∙ h.1, unchanged done h.2)

-- a call of a category's own on a closed control is refused
pub closed_refuses : (m : Machine) (n : ℕ) (c : Control) (asked : Call) → is_common asked ≡ false → c.device ≡ None
    → first_refusal (refusals m n c asked) ≡ Some (Refused Closed 0)
closed_refuses m n c asked own closed = ap first_refusal (own_call m n c asked own).rows
    ∙ closed_table (holder_of m c) (own_rows c.device m n c asked)
  where
    closed_table : (holder : Option ℕ) (rest : List Row)
        → first_refusal (table n holder c (needs_of c.category asked) rest) ≡ Some (Refused Closed 0)
    closed_table holder rest = rw closed refl

-- what the check of a control of Hard Totals refuses, the table of its call refuses
pub totals_refuse : (m : Machine) (n : ℕ) (c : Control) (asked : Call) {refusal : Answer} → c.category ≡ HardTotals
    → c.device ≡ Some TheTotals → ((rest : List Row)
    → first_refusal (table n m.totals.totals.area c (needs_of HardTotals asked) rest) ≡ Some refusal)
    → first_refusal (table n (holder_of m c) c (needs_of c.category asked) (own_rows c.device m n c asked))
    ≡ Some refusal
totals_refuse m n c asked is opens refuses =
    ap₂ (λ k d. first_refusal (table n (holder_in m.claims m.totals.totals.area d) c (needs_of k asked)
    (own_rows c.device m n c asked))) is opens ∙ refuses (own_rows c.device m n c asked)

-- what its check lets through, the rest of the table decides
pub totals_let : (m : Machine) (n : ℕ) (c : Control) (asked : Call) → c.category ≡ HardTotals
    → c.device ≡ Some TheTotals → ((rest : List Row)
    → first_refusal (table n m.totals.totals.area c (needs_of HardTotals asked) rest) ≡ first_refusal rest)
    → IsLet m n c asked
totals_let m n c asked is opens lets rest =
    ap₂ (λ k d. first_refusal (table n (holder_in m.claims m.totals.totals.area d) c (needs_of k asked) rest)) is opens
    ∙ lets rest

-- what is true of the control with a number
pub at_number : (controls : List Control) (n : ℕ) {c : Control} (Is : Control → Type 0) → slice_get controls n ≡ Some c
    → MatchOption (slice_get controls n) ⊥ Is → Is c
at_number controls n {c} Is found is = MatchOption-at_some ⊥ Is c found is

-- ---- what holds a device

-- the device at whose place an open control is has a claim
pub covered : {m : Machine} (n : ℕ) {c : Control} → IsSound m → slice_get m.controls n ≡ Some c
    → IfSome (open_place c.device) (λ place. place < length m.claims)
covered {m} n {c} sound found = by c.device (seated m n c sound found)
  where
    by : (device : Option OpenDevice) → IsOpenFor m.devices c.category c.cursor.place device
        → IfSome (open_place device) (λ place. place < length m.claims)
    by None seat = tt
    by (Some (At place)) seat =
        let x = matched (slice_get m.devices place) _ seat in
        let there = slice_get_within m.devices place x.0 x.1 in omega (arith, there, sound.covers)
    by (Some TheTotals) seat = tt
