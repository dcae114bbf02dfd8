-- What keeps a machine sound: each control stays at its device, and each device of its kind.
use Rattle.pos_counter.proofs.Common.{Action, All, All-get_or, All-map, All-set, Answer, At, Call, CarriesOut, Category}
use Rattle.pos_counter.proofs.Common.{Changes, ChangesOne, Control, ControlUpdate, Device, DeviceDoes, Does, DueRequest}
use Rattle.pos_counter.proofs.Common.{Effect, Err, Follows, Gives, HardTotals, Hardware, HasItsDevice, HasItsKind}
use Rattle.pos_counter.proofs.Common.{IfSome, Input, IsAttached, IsDetached, IsInRange, IsOpenFor, IsPlaceOn}
use Rattle.pos_counter.proofs.Common.{IsServedFor as IsServed, IsSound, List, Machine, MatchOption, MatchOption-at_some}
use Rattle.pos_counter.proofs.Common.{MatchResult, NoMemory, None, NothingChanges, Ok, OnHardware, OpenDevice}
use Rattle.pos_counter.proofs.Common.{OpenTarget, Option, Ordered, Place, Property, Queues, Result, Signs, Some}
use Rattle.pos_counter.proofs.Common.{TakesIn, TheTotals, Value, WorksAt, WorksOn, [], after_release, after_set}
use Rattle.pos_counter.proofs.Common.{after_work, all_listening, ap, arith, bytes_eq, changed, cond_both, device_action}
use Rattle.pos_counter.proofs.Common.{device_at, device_found, device_rows, due_request_at, eq-eqb, false≢true}
use Rattle.pos_counter.proofs.Common.{found_at, found_under, get_or, get_or_from_slice_get, has_open, if_listening, inl}
use Rattle.pos_counter.proofs.Common.{inr, is_at, is_exclusive, is_some, kind_in, kind_of, length-set, listens}
use Rattle.pos_counter.proofs.Common.{open_place, option_map, origin, place_of, reaction, refl, rules, same_Some}
use Rattle.pos_counter.proofs.Common.{serves, set, signs_of, slice_get, slice_get-map, slice_get_within, slice_set}
use Rattle.pos_counter.proofs.Common.{stopped, subst, suc, sym, takes, totals_under, true, with_control, zero, ℕ, ◌∙◌}
use Rattle.pos_counter.proofs.Common.{◌∷◌, ◌≡◌}
use Rattle.std.proofs.lemmas.List.Folds.{list_any_at}
use Rattle.pos_service.specs.Controls.{queued}
use Rattle.pos_service.specs.Statuses.{heard_signs}
use Rattle.pos_service.specs.declared.input.Taken.{Taken}
use Rattle.pos_service.specs.declared.order.Order.{Order}
use Rattle.pos_service.specs.declared.order.Reply.TheVariants as reply
use Rattle.pos_service.specs.declared.order.Reply.{Reply}
use Rattle.pos_service.specs.declared.answer.WorkResult.{WorkResult}
use Rattle.pos_counter.proofs.CursorLemmas.{DeedStaysOn, NoneApplies, StaysOn, deed_called, place_opened, place_set}
use Rattle.pos_counter.proofs.LiftLemmas.{decided_cases, match_cases, matched}

-- the cursor has moved to another place of the device at a place
moved_at : (category : Category) (was now : Place) (o : Option Device)
    → (IsPlaceOn (kind_in o) was → IsPlaceOn (kind_in o) now) → MatchOption o ⊥ (IsServed category was)
    → MatchOption o ⊥ (IsServed category now)
moved_at category was now None moves h = h
moved_at category was now (Some device) moves h = (h.0, h.1, moves h.2)

-- the cursor has moved to another place of the device that is open
moved_seat : (ds : List Device) (category : Category) (was now : Place) (device : Option OpenDevice)
    → (IsPlaceOn (kind_in (device_at ds (open_place device))) was
    → IsPlaceOn (kind_in (device_at ds (open_place device))) now) → IsOpenFor ds category was device
    → IsOpenFor ds category now device
moved_seat ds category was now None moves h = h
moved_seat ds category was now (Some (At place)) moves h = moved_at category was now (slice_get ds place) moves h
moved_seat ds category was now (Some TheTotals) moves h = h

-- what all have, the one at a place has
all_at : {A : Type 0} (P : A → Type 0) (xs : List A) (n : ℕ) (x : A) → slice_get xs n ≡ Some x → All P xs → P x
all_at P xs n x e all = subst P (get_or_from_slice_get xs n x x e) (All-get_or P xs n x (slice_get_within xs n x e) all)

-- the control that a number has is one with its device
pub seated : (m : Machine) (n : ℕ) (c : Control) → IsSound m → slice_get m.controls n ≡ Some c
    → HasItsDevice m.devices c
seated m n c s e = all_at (HasItsDevice m.devices) m.controls n c e s.places

-- a control that has the Hard Totals open is one of theirs
pub totals_category : {m : Machine} (n : ℕ) {c : Control} → IsSound m → slice_get m.controls n ≡ Some c
    → c.device ≡ Some TheTotals → c.category ≡ HardTotals
totals_category {m} n {c} s found is = rw is at (seated m n c s found)

-- a control with its device in the place of another
pub with_control_sound : (m : Machine) (n : ℕ) (c : Control) → HasItsDevice m.devices c → IsSound m
    → IsSound (with_control m n c)
with_control_sound m n c h s = record {
  kinds = s.kinds;
  places = All-set (HasItsDevice m.devices) m.controls n c h s.places;
  covers = s.covers;
}

-- what a control finds to open among devices is there, and serves it at the first place
found_seat : (ds : List Device) (category : Category) (place : Option ℕ) → All HasItsKind ds
    → IsOpenFor ds category origin (device_found (found_at category place (device_at ds place)))
found_seat ds category None kinds = tt
found_seat ds category (Some i) kinds = there (slice_get ds i) refl
  where
    seat : OpenTarget → Type 0
    seat found = IsOpenFor ds category origin (device_found found)

    there : (o : Option Device) → slice_get ds i ≡ o → seat (found_at category (Some i) o)
    there None e = tt
    there (Some d) e = cond_both (serves category d.kind) _ _ seat (λ serves. cond_both (is_some d.hardware) _ _ seat
        (λ attached. rw e (serves, attached, place_opened (Some d.kind) (all_at HasItsKind ds i d e kinds).0))
        (λ vacant. tt)) (λ other. tt)

-- so is what a control of Hard Totals finds
found_totals : (ds : List Device) (totals : Option (List ℕ)) (name : List ℕ)
    → IsOpenFor ds HardTotals origin (device_found (totals_under totals name))
found_totals ds None name = tt
found_totals ds (Some totals) name = cond_both (bytes_eq name totals) _ _
    (λ found. IsOpenFor ds HardTotals origin (device_found found)) (λ yes. refl) (λ no. tt)

-- what a control finds to open serves it
pub found_open : (m : Machine) (category : Category) (name : List ℕ) → All HasItsKind m.devices
    → IsOpenFor m.devices category origin (device_found (found_under m category name))
found_open m HardTotals name kinds = found_totals m.devices m.totals_name name
found_open m category name kinds = found_seat m.devices category (place_of m.devices name) kinds

-- a change of controls that keeps each at its device
abbrev KeepsSeats : List Device → (Control → Control) → Type 0
KeepsSeats ds change = (c : Control) → HasItsDevice ds c → HasItsDevice ds (change c)

all_listening_keep : (ds : List Device) (place : ℕ) (change : Control → Control) (cs : List Control)
    → KeepsSeats ds change → All (HasItsDevice ds) cs → All (HasItsDevice ds) (all_listening place change cs)
all_listening_keep ds place change cs keeps all = All-map (HasItsDevice ds) (if_listening place change) cs (λ k e lt.
    let c = get_or cs k e in
    cond_both (listens place c) (change c) c (HasItsDevice ds) (λ on. keeps c (all k e lt)) (λ off. all k e lt))

reaction_keeps : (ds : List Device) (i : Input) (t : Taken) (was is : Signs) → KeepsSeats ds (reaction i t was is)
reaction_keeps ds i t was is c h = grind (arith, cond_both)

-- a device that has other hardware, or none, serves whom it served, unless it has lost its own
served_with : (ds : List Device) (i k : ℕ) {d : Device} (now : Option Hardware) (category : Category) (cursor : Place)
    → slice_get ds i ≡ Some d → (k ≡ i → is_some now ≡ true) → MatchOption (slice_get ds k) ⊥ (IsServed category cursor)
    → MatchOption (slice_get (set ds i (record d { hardware = now })) k) ⊥ (IsServed category cursor)
served_with [] i k now category cursor is stands h = absurd h
served_with (x ∷ ds) zero zero now category cursor is stands h = search rules
served_with (x ∷ ds) zero (suc k) now category cursor is stands h = h
served_with (x ∷ ds) (suc i) zero now category cursor is stands h = h
served_with (x ∷ ds) (suc i) (suc k) now category cursor is stands h =
    served_with ds i k now category cursor is (λ e. stands (ap suc e)) h

seat_with : (ds : List Device) (i : ℕ) {d : Device} (now : Option Hardware) → slice_get ds i ≡ Some d
    → (category : Category) (cursor : Place) (device : Option OpenDevice)
    → (open_place device ≡ Some i → is_some now ≡ true) → IsOpenFor ds category cursor device
    → IsOpenFor (set ds i (record d { hardware = now })) category cursor device
seat_with ds i now is category cursor None stands h = h
seat_with ds i now is category cursor (Some (At k)) stands h =
    served_with ds i k now category cursor is (λ e. stands (ap (λ n. Some n) e)) h
seat_with ds i now is category cursor (Some TheTotals) stands h = h

-- other hardware at a device, or none, keeps the machine sound, where it is of the device's kind, and is there where a
-- control has the device open
hardware_sound : (m : Machine) {cs : List Control} {i : ℕ} {d : Device} (now : Option Hardware)
    → slice_get m.devices i ≡ Some d → IfSome now (λ hardware. d.kind ≡ hardware.kind)
    → All (λ c. open_place c.device ≡ Some i → is_some now ≡ true) cs → All (HasItsDevice m.devices) cs → IsSound m
    → IsSound (record m { controls = cs; devices = slice_set m.devices i (record d { hardware = now }) })
hardware_sound m {i} {d} now is kind stands seats s = record {
  kinds = All-set HasItsKind m.devices i (record d { hardware = now })
      ((all_at HasItsKind m.devices i d is s.kinds).0, kind) s.kinds;
  places = λ k e lt. seat_with m.devices i now is _ _ _ (stands k e lt) (seats k e lt);
  covers = s.covers ∙ sym (length-set m.devices i (record d { hardware = now }));
}

-- Hardware stands at a device: it is of the device's kind, which is in range.
pub record StandsAt (ds : List Device) (at : Option ℕ) (hardware : Hardware) : Type 0 where
  pub kind : kind_in (device_at ds at) ≡ Some hardware.kind
  pub range : IsInRange hardware.kind

-- what is done at a device's hardware keeps its kind, and each control's device
pub record Keeps (ds : List Device) (before : Hardware) (old : List Control) (after : Hardware)
    (new : List Control) : Type 0 where
  pub kind : after.kind ≡ before.kind
  pub seats : All (HasItsDevice ds) old → All (HasItsDevice ds) new

pub on_hardware_sound : (m : Machine) {m' : Machine} {at : Option ℕ} (Does : ℕ → Effect)
    → ((place : ℕ) (before : Hardware) (new : List Control) (after : Hardware) → StandsAt m.devices at before
    → Does place m.controls before new after → Keeps m.devices before m.controls after new) → OnHardware m at Does m'
    → IsSound m → IsSound m'
on_hardware_sound m {at} Does keeps o s =
    let here : HasItsKind o.device = all_at HasItsKind m.devices o.place o.device o.is_device s.kinds in
    let kind : o.device.kind ≡ o.before.kind = rw o.is_attached at here.1 in
    let stands : StandsAt m.devices at o.before =
    record { kind = rw (o.is_at, o.is_device, kind); range = rw kind at here.0 } in
    let kept = keeps o.place o.before o.controls o.after stands o.does in
    rw o.machine (hardware_sound m (Some o.after) o.is_device (kind ∙ sym kept.kind) (λ k e lt opens. refl)
    (kept.seats s.places) s)

-- whatever has this effect does so
abbrev AllKeep : List Device → Effect → Type 0
AllKeep ds Does = (old : List Control) (before : Hardware) (new : List Control) (after : Hardware)
    → Does old before new after → Keeps ds before old after new

module _ (ds : List Device) (old : List Control) (before : Hardware) (new : List Control) (after now : Hardware)
    (is : after ≡ now) (kind : now.kind ≡ before.kind) where
  -- controls are as they were
  unmoved : new ≡ old → Keeps ds before old after new
  unmoved same = record { kind = ap (λ (s : Hardware). s.kind) is ∙ kind; seats = λ all. rw same all }

  -- those that listen change
  listening : (place : ℕ) (change : Control → Control) → KeepsSeats ds change → new ≡ all_listening place change old
      → Keeps ds before old after new
  listening place change keeps same = record {
    kind = ap (λ (s : Hardware). s.kind) is ∙ kind;
    seats = λ all. rw same (all_listening_keep ds place change old keeps all);
  }

pub takes_keeps : (ds : List Device) (i : Input) (place : ℕ) → AllKeep ds (TakesIn i place)
takes_keeps ds i place old before new after h = search (rules, listening, reaction_keeps)

-- a control that changes keeps its device
one_keeps : (ds : List Device) (change : Control → Control) (number : ℕ) (old new : List Control) → KeepsSeats ds change
    → ChangesOne change number old new → All (HasItsDevice ds) old → All (HasItsDevice ds) new
one_keeps ds change number old new keeps h all =
    let x = matched (slice_get old number) _ h in
    rw x.2 (All-set (HasItsDevice ds) old number (change x.0)
    (keeps x.0 (all_at (HasItsDevice ds) old number x.0 x.1 all)) all)

-- where nothing has changed
same_keeps : (ds : List Device) → AllKeep ds NothingChanges
same_keeps ds old before new after h = unmoved ds old before new after before h.hardware refl h.controls

-- whatever a peripheral says to an order
ordered_keeps : (ds : List Device) (given : Order) (place : ℕ) (told : Reply) → AllKeep ds (Ordered given place told)
ordered_keeps ds given place reply.Done old before new after h = search (rules, listening)
ordered_keeps ds given place reply.LineFault old before new after h =
    unmoved ds old before new after _ h.hardware refl h.controls
ordered_keeps ds given place said old before new after h = same_keeps ds old before new after h.same

-- a control that a call changes so has its device
change_seat : (ds : List Device) (what : ControlUpdate) (c : Control)
    → StaysOn (kind_in (device_at ds (open_place c.device))) c.cursor.place what → HasItsDevice ds c
    → HasItsDevice ds (changed what c)
change_seat ds what c stays h = grind (arith, moved_seat)

-- the control with a number, whose cursor a call leaves at a place of its device, keeps that
changes_keep : (ds : List Device) (what : ControlUpdate) (number : ℕ) {c : Control} (old new : List Control)
    → slice_get old number ≡ Some c → StaysOn (kind_in (device_at ds (open_place c.device))) c.cursor.place what
    → ChangesOne (changed what) number old new → All (HasItsDevice ds) old → All (HasItsDevice ds) new
changes_keep ds what number {c} old new at stays h all =
    let same : new ≡ slice_set old number (changed what c) =
    MatchOption-at_some ⊥ (λ control. new ≡ slice_set old number (changed what control)) c at h in
    rw same (All-set (HasItsDevice ds) old number (changed what c) (change_seat ds what c stays
    (all_at (HasItsDevice ds) old number c at all)) all)

-- what a call comes to keeps each control's device
deed_keeps : (ds : List Device) (d : Action) (r : Answer) (number place : ℕ) (c : Control) (old : List Control)
    (before : Hardware) (new : List Control) (after : Hardware) → slice_get old number ≡ Some c
    → DeedStaysOn (kind_in (device_at ds (open_place c.device))) c.cursor.place d
    → CarriesOut d number place r old before new after → Keeps ds before old after new
deed_keeps ds (Gives given what) r number place c old before new after at stays h =
    let told = ordered_keeps ds given place h.said old before h.heard after h.ordered in
    record { kind = told.kind; seats = λ all. by h.said h.ordered h.follows (told.seats all) }
  where
    by : (said : Reply) → Ordered given place said old before h.heard after → Follows said what number h.heard new
        → All (HasItsDevice ds) h.heard → All (HasItsDevice ds) new
    by reply.Done ordered follows all =
        let signs = heard_signs (signs_of before.kind before.plant) (signs_of after.kind after.plant) in
        let hears = if_listening place signs in
        let now = ap (λ (cs : List Control). slice_get cs number) ordered.controls ∙ slice_get-map hears old number
        ∙ ap (option_map hears) at in
        changes_keep ds what number h.heard new now (cond_both (listens place c) (signs c) c
        (λ g. StaysOn (kind_in (device_at ds (open_place g.device))) g.cursor.place what)
        (λ on. stays) (λ off. stays)) follows all
    by said ordered same all = rw same all
deed_keeps ds (Changes what) r number place c old before new after at stays h = record {
  kind = ap (λ (s : Hardware). s.kind) h.hardware;
  seats = λ all. changes_keep ds what number old new at stays h.controls all;
}
deed_keeps ds (Queues given) r number place c old before new after at stays h =
    let (control, found, decided) = matched (slice_get old number) _ h in
    elim (decided_cases decided) [
      | inl x ↦ record {
        kind = ap (λ (s : Hardware). s.kind) x.1.hardware;
        seats = λ all. one_keeps ds (queued given) number old new (λ one seat. seat) x.1.controls all;
      }
      | inr x ↦ same_keeps ds old before new after x.1
    ]

-- the control that is told what has come of its request
work_keeps : (ds : List Device) (id : ℕ) (told : Reply) → KeepsSeats ds (after_work id told)
work_keeps ds id said c h = grind arith

worked_keeps : (ds : List Device) (work : DueRequest) (place : ℕ) (r : WorkResult) → AllKeep ds (WorksOn work place r)
worked_keeps ds work place r old before new after h =
    let done = ordered_keeps ds work.given place h.said old before h.controls after h.ordered in record {
      kind = done.kind;
      seats = λ all. one_keeps ds (after_work work.id h.said) work.holder h.controls new
          (work_keeps ds work.id h.said) h.worked (done.seats all);
    }

-- work, or nothing to do
pub works_keep : (ds : List Device) (holder : Option ℕ) (place : ℕ) (outcome : Result WorkResult NoMemory)
    → AllKeep ds (WorksAt holder place outcome)
works_keep ds holder place outcome old before new after h =
    elim (match_cases (due_request_at before.kind place holder old) _ _ h) [
      | inl x ↦ let (idle, left) = x in let (answered, same) = left in same_keeps ds old before new after same
      | inr x ↦ let (work, due, works) = x in by work outcome works
    ]
  where
    by : (work : DueRequest) (outcome : Result WorkResult NoMemory) → MatchResult outcome
        (λ r. WorksOn work place r old before new after) (λ want. NothingChanges old before new after)
        → Keeps ds before old after new
    by work (Ok r) h = worked_keeps ds work place r old before new after h
    by work (Err want) h = same_keeps ds old before new after h

pub device_keeps : (k : Category) (m : Machine) (asked : Call) (r : Answer) (n place : ℕ) (c : Control)
    (before : Hardware) (new : List Control) (after : Hardware) → slice_get m.controls n ≡ Some c
    → serves k before.kind ≡ true → NoneApplies (device_rows k (kind_of m c) c asked)
    → StandsAt m.devices (open_place c.device) before
    → DeviceDoes k (kind_of m c) n c asked r place m.controls before new after
    → Keeps m.devices before m.controls after new
device_keeps k m asked r n place c before new after at served allowed stands h =
    let x = matched (device_action k (kind_of m c) c asked) _ h in
    let stays : (d : Action) → device_action k (kind_of m c) c asked ≡ Some d
    → DeedStaysOn (kind_of m c) c.cursor.place d =
    rw stands.kind (λ d. deed_called k before.kind c asked served stands.range (rw stands.kind at allowed)) in
    deed_keeps m.devices x.0 r n place c m.controls before new after at (stays x.0 x.1) x.2

-- an open control's category serves its device
pub served_by : (ds : List Device) (category : Category) (cursor : Place) (device : Option OpenDevice)
    (before : Hardware) → kind_in (device_at ds (open_place device)) ≡ Some before.kind
    → IsOpenFor ds category cursor device → serves category before.kind ≡ true
served_by ds category cursor None before kind h = absurd cc
served_by ds category cursor (Some TheTotals) before kind h = absurd cc
served_by ds category cursor (Some (At place)) before kind h =
    let (device, there, served) = matched (slice_get ds place) _ h in
    let same = same_Some device.kind before.kind (rw there at kind) in rw (← same) served.0

-- a control with a property set to what it takes has its device
pub set_seat : (ds : List Device) (s : Signs) (c : Control) (p : Property) (v : Value)
    → takes (kind_in (device_at ds (open_place c.device))) p v ≡ true → HasItsDevice ds c
    → HasItsDevice ds (after_set s c p v)
set_seat ds s c p v may h = search (rules, moved_seat, place_set)

-- a control that has released its device still has it open
pub released_seat : (ds : List Device) (k : Category) (c : Control) → HasItsDevice ds c
    → HasItsDevice ds (after_release k c)
released_seat ds k c h = cond_both (is_exclusive k) (stopped c) c (HasItsDevice ds) (λ one. h) (λ many. h)

-- a device that gets a peripheral of its kind keeps each control's device
pub attached_sound : {m m' : Machine} {name : List ℕ} (hardware : Hardware) → IsAttached m name hardware m' → IsSound m
    → IsSound m'
attached_sound {m} hardware o s =
    rw o.machine (hardware_sound m (Some hardware) o.is_device o.kind (λ k e lt opens. refl) s.places s)

-- a control has the device open whose place it has
opens_at : (device : Option OpenDevice) {place : ℕ} → open_place device ≡ Some place → is_at device place ≡ true
opens_at None opens = absurd cc
opens_at (Some (At at)) {place} opens = eq-eqb at place (same_Some at place opens)
opens_at (Some TheTotals) opens = absurd cc

-- a device that no control has open may lose its peripheral
pub detached_sound : (m : Machine) {m' : Machine} {name : List ℕ} {hardware : Hardware} → IsDetached m name hardware m'
    → IsSound m → IsSound m'
detached_sound m o s =
    rw o.machine (hardware_sound m None o.is_device tt (λ k e lt opens. absurd (false≢true (sym o.is_closed
    ∙ list_any_at (has_open o.place) m.controls k e lt (opens_at (get_or m.controls k e).device opens)))) s.places s)
