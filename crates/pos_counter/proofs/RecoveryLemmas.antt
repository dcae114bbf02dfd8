-- Setting a property as a step of the machine, where it recovers the totals and where it doesn't.
use Rattle.pos_counter.proofs.Common.{Answer, Answered, AreDevicesSound, CallOf, Code, Control, Counter, Device}
use Rattle.pos_counter.proofs.Common.{DeviceEnabled, DiskGhosts, DiskRecovers, Done, Empty, Err, FindsFiles, Ghosts}
use Rattle.pos_counter.proofs.Common.{GivesOrders, HardTotals, IsCounterSound, IsErrOf, IsOneOf, IsRecovering}
use Rattle.pos_counter.proofs.Common.{KeptControl, Kind, Leaves, List, Machine, Mode, NoMemory, None, Off, Ok, Option}
use Rattle.pos_counter.proofs.Common.{OutOfMemory, Property, RecoversAny, RecoversNothing, RecoversOneOf, Refused}
use Rattle.pos_counter.proofs.Common.{Response, Result, Serves, Set, SetsByRecovery, SetsTo, Signs, Some, SparesDisk}
use Rattle.pos_counter.proofs.Common.{Standing, Step, TheTotals, Totals, TotalsPart, TotalsView, Truth, Value, WhenOff}
use Rattle.pos_counter.proofs.Common.{[], after_enabling, after_set, and_from, and_right, answered, ap, arith}
use Rattle.pos_counter.proofs.Common.{asks_recovery, code_of, controls_of, device_at, enabling, false, first_refusal}
use Rattle.pos_counter.proofs.Common.{get_or, hardware_in, holder_in, holder_of, inl, inr, is_none, is_ready, kind_in}
use Rattle.pos_counter.proofs.Common.{kind_of, length, machine, machine_with, not, open_place, or_left, or_right}
use Rattle.pos_counter.proofs.Common.{part_of, part_with, recovers, refl, refusals, rules, set, set_rows, settled}
use Rattle.pos_counter.proofs.Common.{signs_at, signs_in, slice_get, subst, sym, tells_power, true, with_control, ℕ}
use Rattle.pos_counter.proofs.Common.{◌&&◌, ◌<◌, ◌∙◌, ◌≡◌, ◌⊎◌}
use Rattle.pos_totals.specs.declared.fault.RecoveryFault.TheVariants as fault
use Rattle.pos_totals.specs.declared.fault.RecoveryFault.{RecoveryFault}
use Rattle.pos_counter.proofs.CrashLemmas.{settled_twice}
use Rattle.pos_counter.proofs.LiftLemmas.{decided_none, decided_weaker, kept_at, kept_machine, matched, set_machine}
use Rattle.pos_counter.proofs.OrderLemmas.{common_given}
use Rattle.pos_counter.proofs.ServiceLemmas.{same_sound}
use Rattle.pos_counter.proofs.SoundnessLemmas.{seated, set_seat, totals_category, with_control_sound}
use Rattle.pos_counter.specs.Orders.{orders_in}

-- a property is set, or finds no memory, and nothing is recovered
pub plain_set : (hs : List KeptControl) (cl : List (Option ℕ)) (ds : List Device) (tn : Option (List ℕ))
    (part : TotalsPart) (n : ℕ) (g h : KeptControl) (p : Property) (v : Value) (r : Result Answer NoMemory)
    → n < length hs → h ≡ get_or hs n h → recovers part h.control p v ≡ false
    → SetsTo (set_rows n (holder_in cl part.totals.area h.control.device)
    (kind_in (device_at ds (open_place h.control.device))) h.control p v) (tells_power h.control p v) r h g
    (after_set (signs_in (hardware_in (device_at ds (open_place h.control.device)))) h.control p v)
    → Step (machine_with hs cl ds tn part) (CallOf n (Set p v)) (answered r) (machine_with (set hs n g) cl ds tn part)
plain_set hs cl ds tn part n g h p v (Ok r) lt is plain turns = rw (kept_at hs n h lt is)
    (decided_weaker (λ done. rw plain (done.0, set_machine hs cl ds tn part n g done.1))
    (λ same. kept_machine hs cl ds tn part n same is) turns)
plain_set hs cl ds tn part n g h p v (Err want) lt is plain wants = rw (kept_at hs n h lt is) (
  or_right _ _ wants.0,
  wants.1,
  set_machine hs cl ds tn part n g wants.2 ∙ sym (set_machine hs cl ds tn part n h refl)
      ∙ kept_machine hs cl ds tn part n refl is,
)

-- ---- what asks for a recovery

-- The control that is to be enabled: an open one of Hard Totals that are off.
pub record Asking (hs : List KeptControl) (n : ℕ) (p : Property) (v : Value) (mode : Mode) : Type 0 where
  pub control : Control
  pub at : slice_get (controls_of hs) n ≡ Some control
  pub off : mode ≡ Off
  pub names : p ≡ DeviceEnabled
  pub gives : v ≡ Truth true
  pub asks : asks_recovery control DeviceEnabled (Truth true) ≡ true
  pub opened : is_none control.device ≡ false
  pub totals : control.device ≡ Some TheTotals

pub asks_there : {hs : List KeptControl} {n : ℕ} {p : Property} {v : Value} {mode : Mode} → IsRecovering hs n p v mode
    → Asking hs n p v mode
asks_there h = grind (arith, matched)

module _ (c : Control) (totals : c.category ≡ HardTotals) where
  -- nothing refuses to enable it, whoever holds the area
  unrefused : (n : ℕ) (holder : Option ℕ) (at : Option Kind) → is_none c.device ≡ false
      → first_refusal (set_rows n holder at c DeviceEnabled (Truth true)) ≡ None
  unrefused n holder at opened = rw (totals, opened)

  -- so it is enabled, without memory
  pub done_set : (n : ℕ) (holder : Option ℕ) (kind : Option Kind) (s : Signs) (h g : KeptControl) {p : Property}
      {v : Value} {r : Result Answer NoMemory} → is_none c.device ≡ false → h.control ≡ c → p ≡ DeviceEnabled
      → v ≡ Truth true
      → SetsTo (set_rows n holder kind h.control p v) (tells_power h.control p v) r h g (after_set s h.control p v)
      → (r ≡ Ok (Done Empty)) × (g.control ≡ after_set s c DeviceEnabled (Truth true))
  done_set n holder kind s h g opened same names gives wants = grind (arith, unrefused, and_right)

-- ---- a recovery

module _ {D : Type 0} (bound : DiskGhosts D) (old new : TotalsView D) (off : old.totals.mode ≡ Off)
    (r : Result (Unit {0}) RecoveryFault) (recovers : DiskRecovers bound old r new) (left : List Standing)
    (leaves : Leaves bound old left) where
  -- for all that the disk may leave, one of it is found
  found_one : RecoversOneOf left (bound.state old.disk) (bound.state new.disk) old.totals r new.totals
  found_one =
      subst (λ mode. WhenOff mode (RecoversAny (bound.state old.disk) (bound.state new.disk) old.totals r new.totals))
      off (recovers.one_of leaves.honest) left leaves.leaves

  -- a recovery leaves the files that were found, and else what it was
  recovered_leaves : Leaves bound new (settled new.totals.layout new.totals.mode left)
  recovered_leaves = record {
    honest = recovers.kept.honest.0 leaves.honest;
    leaves = found_one.passes.now;
    is_settled = settled_twice new.totals.layout left new.totals.mode;
  }

  -- unless the disk's fault is answered, it hasn't failed
  never_failed : (IsErrOf r fault.Device → ⊥) → (bound.state new.disk).failures ≡ (bound.state old.disk).failures
  never_failed other = elim (recovers.counts leaves.honest) [ inl failed ↦ absurd (other failed) | inr same ↦ same ]

-- ---- a call that recovers totals that are off

module _ {D P : Type 0} (bound : DiskGhosts D) (peripherals : Ghosts P) (old new : Counter D P)
    (tally : new.tally ≡ old.tally)
    (same_orders : orders_in peripherals new.devices ≡ orders_in peripherals old.devices)
    (sound : IsCounterSound peripherals old)
    (devices : AreDevicesSound peripherals new.devices) (n : ℕ) (p : Property)
    (v : Value) (there : Asking old.controls.items n p v old.totals.totals.mode) where
  abbrev c : Control
  c = there.control

  abbrev before : List Standing → Machine
  before left = machine peripherals old (part_of bound old.totals left)

  abbrev now : List Standing → Machine
  now left = machine peripherals new (part_of bound new.totals left)

  abbrev enabled : Control
  enabled = after_enabling (before []) c

  category : c.category ≡ HardTotals
  category = totals_category n (sound.machine (part_of bound old.totals [])) there.at there.totals

  allowed : (left : List Standing) → first_refusal (refusals (before left) n c enabling) ≡ None
  allowed left = unrefused c category n (holder_of (before left) c) (kind_of (before left) c) there.opened

  recovering : (asks_recovery c DeviceEnabled (Truth true) && not (is_ready old.totals.totals.mode)) ≡ true
  recovering = and_from _ _ there.asks (ap (λ mode. not (is_ready mode)) there.off)

  -- it uses the disk
  uses : (left : List Standing) (failures : ℕ)
      → SparesDisk (machine peripherals old (part_with old.totals.totals left failures)) (CallOf n enabling) → ⊥
  uses left failures spares = search (rules, unrefused, recovering, category)

  -- what it does where nothing refuses it
  does : (result : Answer) (left after : List Standing)
      → SetsByRecovery (before left) n c DeviceEnabled (Truth true) result (now after)
      → Step (before left) (CallOf n enabling) (Answered result) (now after)
  does result left after sets = rw there.at (decided_none (allowed left) (rw recovering sets))

  -- it gives no order
  gives_none : (o : Result Answer NoMemory) → GivesOrders peripherals old (CallOf n enabling) (answered o) new
  gives_none o part = common_given (machine peripherals old part) n enabling o (orders_in peripherals old.devices)
      same_orders refl

  -- it is a step for all that the disk may leave, and changes the totals alone, and its control
  serves : (r : Result (Unit {0}) RecoveryFault) (response : Response) → DiskRecovers bound old.totals r new.totals
      → ((left : List Standing) → Leaves bound old.totals left → Step (before left) (CallOf n enabling) response
      (now (settled new.totals.totals.layout new.totals.totals.mode left))) → ((part other : TotalsPart)
      → (machine peripherals new other ≡ record (machine peripherals old part) { totals = other }) ⊎ (machine
      peripherals new other ≡ record (with_control (machine peripherals old part) n enabled) { totals = other }))
      → IsCounterSound peripherals new → GivesOrders peripherals old (CallOf n enabling) response new
      → Serves bound peripherals old (CallOf n (Set p v)) response new
  serves r response recovers step alone sound orders = rw (there.names, there.gives) (record {
    step = record {
      steps = λ left leaves. record {
        after = settled new.totals.totals.layout new.totals.totals.mode left;
        leaves = recovered_leaves bound old.totals new.totals there.off r recovers left leaves;
        step = step left leaves;
        any_moment = (found_one bound old.totals new.totals there.off r recovers left leaves).passes.any_moment;
      };
      spared = λ left failures spares. absurd (uses left failures spares);
      otherwise = λ left failures. inr (rw there.at (
        there.totals,
        alone (part_with old.totals.totals left failures) (part_with new.totals.totals left failures),
      ));
      unchanged = λ undone was ready. absurd (rw there.off at was);
      kept = recovers.kept;
      orders = orders;
      tally = tally;
    };
    sound = sound;
  })

  -- the totals are recovered, and the control is enabled
  pub recovered_serves : (o : Result Answer NoMemory) → o ≡ Ok (Done Empty)
      → DiskRecovers bound old.totals (Ok tt) new.totals
      → ((part : TotalsPart) → machine peripherals new part ≡ with_control (machine peripherals old part) n enabled)
      → Serves bound peripherals old (CallOf n (Set p v)) (answered o) new
  recovered_serves o is recovers same = rw is (serves (Ok tt) (Answered (Done Empty)) recovers (λ left leaves.
      let after = settled new.totals.totals.layout new.totals.totals.mode left in
      does (Done Empty) left after (inl (
        refl,
        record {
          found = (found_one bound old.totals new.totals there.off (Ok tt) recovers left leaves).found;
          left = refl;
          counts = never_failed bound old.totals new.totals there.off (Ok tt) recovers left leaves (λ failed. cc);
        },
        same (part_of bound new.totals after),
      ))) (λ part other. inr (same other)) (record {
        machine = λ part.
            let m = machine peripherals old part in
            let seat = set_seat m.devices (signs_at m c) c DeviceEnabled (Truth true) refl
            (seated m n c (sound.machine part) there.at) in
            rw (same part) (with_control_sound m n enabled seat (sound.machine part));
        devices = devices;
      }) (gives_none (Ok (Done Empty))))

  -- a recovery that fails leaves the machine, but for the count of failures of its disk
  module _ (x : RecoveryFault) (recovers : DiskRecovers bound old.totals (Err x) new.totals)
      (same : (part : TotalsPart) → machine peripherals new part ≡ machine peripherals old part) where
    kept : new.totals.totals ≡ old.totals.totals
    kept = grind arith

    fails : (response : Response) → ((left : List Standing) → Leaves bound old.totals left
        → Step (before left) (CallOf n enabling) response (now left))
        → GivesOrders peripherals old (CallOf n enabling) response new
        → Serves bound peripherals old (CallOf n (Set p v)) response new
    fails response step orders = serves (Err x) response recovers
        (λ left leaves. subst (λ after. Step (before left) (CallOf n enabling) response (now after))
        (leaves.is_settled ∙ ap (λ (t : Totals). settled t.layout t.mode left) (sym kept)) (step left leaves))
        (λ part other. inl (same other)) (same_sound same sound devices) orders

    same_part : (left : List Standing) → Leaves bound old.totals left → (IsErrOf {T = Unit {0}} (Err x) fault.Device
        → ⊥) → part_of bound new.totals left ≡ part_of bound old.totals left
    same_part left leaves other = search (rules, kept, never_failed)

    -- why it has failed
    why : (left : List Standing) (k : Code) → Leaves bound old.totals left → Some k ≡ code_of x
        → RecoversNothing (part_of bound old.totals left) (Refused k 0) (part_of bound new.totals left)
    why left k leaves is = by x recovers is
        (found_one bound old.totals new.totals there.off (Err x) recovers left leaves).found (same_part left leaves)
      where
        by : (x : RecoveryFault) → DiskRecovers bound old.totals (Err x) new.totals → Some k ≡ code_of x
            → FindsFiles (IsOneOf left) old.totals.totals (Err x) new.totals.totals
            → ((IsErrOf {T = Unit {0}} (Err x) fault.Device → ⊥)
            → part_of bound new.totals left ≡ part_of bound old.totals left)
            → RecoversNothing (part_of bound old.totals left) (Refused k 0) (part_of bound new.totals left)
        by fault.Unformatted recovers is found same = inl (cc, found.0, same (λ failed. cc))
        by fault.Damaged recovers is found same = inr (cc, inl (inl found.0, same (λ failed. cc)))
        by fault.Handles recovers is found same = inr (cc, inl (inr found.0, same (λ failed. cc)))
        by fault.NoMemory recovers is found same = absurd cc
        by fault.Device recovers is found same = inr (
          cc,
          inr (record {
            rises = recovers.device refl leaves.honest;
            later = recovers.kept.later leaves.honest;
            else_same = ap (λ (t : Totals). part_with t left (bound.state new.totals.disk).failures) kept;
          }),
        )

    -- the recovery fails, and the control stays as it is
    pub failed_serves : (k : Code) → Some k ≡ code_of x
        → Serves bound peripherals old (CallOf n (Set p v)) (Answered (Refused k 0)) new
    failed_serves k is = fails (Answered (Refused k 0))
        (λ left leaves. does (Refused k 0) left left (inr (why left k leaves is, same (part_of bound new.totals left))))
        (gives_none (Ok (Refused k 0)))

    -- the recovery finds no memory, and nothing has changed
    pub starved_serves : None ≡ code_of x → Serves bound peripherals old (CallOf n (Set p v)) OutOfMemory new
    starved_serves is = fails OutOfMemory (λ left leaves. rw there.at (
      or_left _ _ recovering,
      allowed left,
      same (part_of bound new.totals left)
          ∙ ap (machine peripherals old) (same_part left leaves (λ failed. no_fault x is failed)),
    )) (gives_none (Err (record {})))
      where
        no_fault : (x : RecoveryFault) → None ≡ code_of x → IsErrOf {T = Unit {0}} (Err x) fault.Device → ⊥
        no_fault x is failed = cc
