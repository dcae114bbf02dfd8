-- What each step of the machine leaves: a sound machine, and the files of the totals as its event says.
use Rattle.pos_counter.proofs.Common.{Action, All-push, Answer, Answered, Arranges, Asks, Bool, Call, CallOf, Category}
use Rattle.pos_counter.proofs.Common.{Claim, Close, Control, Delivered, Does, DoesOwn, DoesTogether, Done, Effect}
use Rattle.pos_counter.proofs.Common.{Failure, File, FileCall, Get, HardTotals, Hardware, HasItsDevice, History}
use Rattle.pos_counter.proofs.Common.{IsAttached, IsDetached, IsOneGroup, IsOneOf, IsSettled, IsSound, IsUndone, Kind}
use Rattle.pos_counter.proofs.Common.{Layout, List, Machine, MatchBool, MatchOption, Mode, None, Nothing, Off, Ok}
use Rattle.pos_counter.proofs.Common.{OnHardware, Open, OpenDevice, Option, OutOfMemory, PlainFile, Property, Ready}
use Rattle.pos_counter.proofs.Common.{Recovered, RecoversNothing, Refused, Release, Request, Response, Set, Sets}
use Rattle.pos_counter.proofs.Common.{SetsByRecovery, Some, Standing, Stands, Step, TheTotals, Totals, TotalsChange}
use Rattle.pos_counter.proofs.Common.{TotalsDo, TotalsPart, Value, WorkOn, Worked, [], after_disk_fault, after_release}
use Rattle.pos_counter.proofs.Common.{after_set, and_parts, ap, arith, asks_recovery, changes_asked, changes_of}
use Rattle.pos_counter.proofs.Common.{claimed, closed, delivered, device_action, dropped, event_between, false}
use Rattle.pos_counter.proofs.Common.{file_call, files_after_all, first_refusal, has_call, history_with, inl, inr}
use Rattle.pos_counter.proofs.Common.{is_common, is_ready, kind_of, left_after, length, length-set, limits_of, map}
use Rattle.pos_counter.proofs.Common.{new_control, next_sequences, not, numbered, open_place, outcome_of_all, own_rows}
use Rattle.pos_counter.proofs.Common.{plain, recovers, refl, refusals, released, rules, signs_at, slice_get, subst, sym}
use Rattle.pos_counter.proofs.Common.{takes, true, with_control, with_place, with_totals, ℕ, ◌++◌, ◌+◌, ◌∷◌, ◌≡◌}
use Rattle.pos_totals.specs.Groups.{group_of}
use Rattle.pos_counter.proofs.CursorLemmas.{NoneApplies, none_applies, none_dropped, unless_not}
use Rattle.pos_counter.proofs.FileCallLemmas.{Comes, Groups, Stays, puts_comes}
use Rattle.pos_counter.proofs.HardwareLemmas.{own_call}
use Rattle.pos_counter.proofs.CrashLemmas.{Rest, arranged_rest, kept_left, rest_settled, same_rest, settles}
use Rattle.pos_counter.proofs.CrashLemmas.{without_rest}
use Rattle.pos_counter.proofs.LiftLemmas.{decided_cases, match_cases, matched}
use Rattle.pos_counter.proofs.PrefixLemmas.{AreAround, Fits, Happens, fits_next}
use Rattle.pos_counter.proofs.SoundnessLemmas.{Keeps, StandsAt, attached_sound, detached_sound, device_keeps}
use Rattle.pos_counter.proofs.SoundnessLemmas.{found_open, on_hardware_sound, released_seat, seated, served_by}
use Rattle.pos_counter.proofs.SoundnessLemmas.{set_seat, takes_keeps, with_control_sound, works_keep}
use Rattle.pos_counter.specs.Steps.{Deliver}

-- ---- what happens to the files

-- what changes, a response and the modes say is what happens, and what is left is settled
abbrev Told : List TotalsChange → TotalsPart → Response → TotalsPart → Type 0
Told changes old response new =
    Happens old (event_between changes old.totals.mode response new.totals.mode) new × IsSettled new.totals new.left

rests : {changes : List TotalsChange} {old new : TotalsPart} (response : Response)
    → ((changes ≡ [] → ⊥) → IsUndone response) → IsSettled old.totals old.left → Rest old new
    → Told changes old response new
rests response undone is h = grind (arith, rest_settled)

-- files with one of the sequences
with_some : {layout : Layout} {files : List PlainFile} (sequences : List ℕ) {left : Standing}
    → IsOneOf (map (λ n. Stands layout files n) sequences) left → (n : ℕ) × (left ≡ Stands layout files n)
with_some [] is = absurd is
with_some (n ∷ sequences) (inl is) = (n, is)
with_some (n ∷ sequences) (inr is) = with_some sequences is

-- changes that are put on the disk as one group, in which it may fail
module _ (old new : TotalsPart) (is : IsSettled old.totals old.left) where
  module _ (change : TotalsChange) (others : List TotalsChange) (transactions : List (Option (List TotalsChange)))
      (group : IsOneGroup old.totals (change ∷ others))
      (left : new.left ≡ left_after old (change ∷ others) new.totals.mode) where
    abbrev all : List TotalsChange
    all = change ∷ others

    -- what the group makes of the files
    made_at : (files : List File) (sequence : ℕ) → old.totals.mode ≡ Ready files sequence
        → outcome_of_all (limits_of old.totals.layout) (plain files)
        (group_of files all) ≡ Ok (plain (files_after_all old.totals.next files all))
    made_at files sequence ready = search rules

    done_told : (given : Value) → DoesTogether (record old.totals { transactions = transactions }) all new.totals
        → Told all old (Answered (Done given)) new
    done_told given h = by old.totals.mode refl
      where
        by : (m : Mode) → old.totals.mode ≡ m → Told all old (Answered (Done given)) new
        by Off off = absurd (rw off at h.follows)
        by (Ready files sequence) ready =
            let now = files_after_all old.totals.next files all in
            let still : new.totals.mode ≡ Ready now h.sequence = rw ready at (ap (λ (t : Totals). t.mode) h.totals) in
            let layout : new.totals.layout ≡ old.totals.layout = ap (λ (t : Totals). t.layout) h.totals in
            let made = made_at files sequence ready in
            (rw (ready, still) (record { was = tt; is = tt; layout = layout; made = made }), search (rules, settles))

    failed_told : (result : Answer) → result ≡ Refused Failure 0 → new.totals
        ≡ after_disk_fault (record old.totals { transactions = transactions }) → Told all old (Answered result) new
    failed_told result failed same = by old.totals.mode refl
      where
        off : new.totals.mode ≡ Off
        off = ap (λ (t : Totals). t.mode) same

        layout : new.totals.layout ≡ old.totals.layout
        layout = ap (λ (t : Totals). t.layout) same

        by : (m : Mode) → old.totals.mode ≡ m → Told all old (Answered result) new
        by Off was = (
          rw (was, off) (record { layout = layout; mode = refl; left = rw (off, was) at left }),
          search (rules, settles),
        )
        by (Ready files sequence) ready =
            let around : AreAround old.totals.layout (plain files) (Some (group_of files all)) new.left =
            λ standing one. elim (rw (rw (off, ready) at left) at one) [
              | inl e ↦ inl (sequence, e)
              | inr e ↦
                  let found = with_some (next_sequences sequence) e in
                  inr (record {
                    group = group_of files all;
                    files = plain (files_after_all old.totals.next files all);
                    sequence = found.0;
                    doubted = refl;
                    made = made_at files sequence ready;
                    stands = found.1;
                  })
            ] in
            (rw (ready, off, failed) (record { was = tt; off = refl; around = around }), search (rules, settles))

  comes_told : (P : Type 0) {changes : List TotalsChange} {result : Answer} → IsOneGroup old.totals changes
      → new.left ≡ left_after old changes new.totals.mode → Comes P old.totals result new.totals changes
      → Told changes old (Answered result) new
  comes_told P group left (Stays transactions undone same) = search (rules, rests, kept_left)
  comes_told P group left (Groups change others transactions given (inl done)) =
      rw done.0 (done_told change others transactions group left given done.1)
  comes_told P group left (Groups change others transactions given (inr failed)) = search (rules, failed_told)

files_told : (asked : FileCall) (old new : TotalsPart) (n : ℕ) (result : Answer) → IsSettled old.totals old.left
    → TotalsDo asked old n result new → Told (changes_asked old.totals n asked) old (Answered result) new
files_told (Asks question) old new n result is h =
    rests (Answered result) (λ some. absurd (some refl)) is (rw h.1 (same_rest old))
files_told (Arranges arrangement) old new n result is h = search (rules, rests, arranged_rest)
files_told Nothing old new n result is h = absurd h
files_told asked old new n result is h =
    comes_told old new is _ h.group h.left (puts_comes asked _ old.totals n result new.totals h.does)

-- numbered files are what they were
pub plain_numbered : (next : ℕ) (files : List PlainFile) → plain (numbered next files) ≡ files
plain_numbered next [] = refl
plain_numbered next (file ∷ files) = ap (λ fs. file ∷ fs) (plain_numbered (next + 1) files)

found_told : {old new : TotalsPart} (response : Response) → old.totals.mode ≡ Off → Recovered old new
    → Told [] old response new
found_told response off h = search (rules, plain_numbered, settles)

-- a recovery that recovers nothing leaves them
unrecovered : {old new : TotalsPart} {result : Answer} → RecoversNothing old result new → Rest old new
unrecovered h = grind (arith, same_rest)

-- totals that are recovered are off
pub recovers_off : {mode : Mode} → not (is_ready mode) ≡ true → mode ≡ Off
recovers_off e = grind arith

-- ---- what leaves the files alone

-- What leaves the files of the totals alone, and the machine sound.
pub record Beside (old new : Machine) : Type 0 where
  pub sound : IsSound old → IsSound new
  pub rest : Rest old.totals new.totals

-- What a step leaves.
record StepLeaves (changes : List TotalsChange) (old : Machine) (response : Response) (new : Machine) : Type 0 where
  pub sound : IsSound old → IsSound new
  pub told : IsSettled old.totals.totals old.totals.left → Told changes old.totals response new.totals

beside_leaves : (changes : List TotalsChange) (old new : Machine) (response : Response)
    → ((changes ≡ [] → ⊥) → IsUndone response) → Beside old new → StepLeaves changes old response new
beside_leaves changes old new response undone b = search (rules, rests)

same_beside : (old new : Machine) → new ≡ old → Beside old new
same_beside old new same = rw same (record { sound = λ s. s; rest = same_rest old.totals })

-- one thing after another
beside_then : {old mid new : Machine} → Beside old mid → Beside mid new → Beside old new
beside_then a b = search rules

other_totals : {m : Machine} (part : TotalsPart) → IsSound m → IsSound (record m { totals = part })
other_totals part s = record { kinds = s.kinds; places = s.places; covers = s.covers }

totals_beside : {m : Machine} (part : TotalsPart) → Rest m.totals part → Beside m (record m { totals = part })
totals_beside part rest = record { sound = other_totals part; rest = rest }

control_beside : (m : Machine) (n : ℕ) (c : Control) → (IsSound m → HasItsDevice m.devices c)
    → Beside m (with_control m n c)
control_beside m n c seat = record { sound = λ s. with_control_sound m n c (seat s) s; rest = same_rest m.totals }

claims_beside : (m : Machine) {claims : List (Option ℕ)} → length claims ≡ length m.claims
    → Beside m (record m { claims = claims })
claims_beside m same = search (rules, same_rest)

hardware_beside : {old new : Machine} {at : Option ℕ} (Does : ℕ → Effect) → OnHardware old at Does new
    → ((place : ℕ) (before : Hardware) (cs : List Control) (after : Hardware) → StandsAt old.devices at before
    → Does place old.controls before cs after → Keeps old.devices before old.controls after cs) → Beside old new
hardware_beside Does o keeps = search (rules, on_hardware_sound, same_rest)

-- ---- requests that are no calls

made_beside : (old : Machine) {new : Machine} (category : Category)
    → new ≡ record (with_totals old (with_place old.totals.totals)) {
      controls = old.controls ++ new_control category ∷ [];
    } → Beside old new
made_beside old category h = rw h (record {
  sound = λ s. record {
    kinds = s.kinds;
    places = All-push (HasItsDevice old.devices) old.controls (new_control category) s.places tt;
    covers = s.covers;
  };
  rest = record { layout = refl; mode = refl; left = refl };
})

attached_beside : (old : Machine) {new : Machine} {name : List ℕ} {hardware : Hardware}
    → IsAttached old name hardware new → Beside old new
attached_beside old {hardware} h =
    record { sound = attached_sound hardware h; rest = rw h.machine (same_rest old.totals) }

detached_beside : (old : Machine) {new : Machine} {name : List ℕ} {hardware : Hardware}
    → IsDetached old name hardware new → Beside old new
detached_beside old h = record { sound = detached_sound old h; rest = rw h.machine (same_rest old.totals) }

-- ---- calls

claimed_beside : (device : Option OpenDevice) (m : Machine) (n : ℕ) → Beside m (claimed device m n)
claimed_beside device m n = grind (arith, totals_beside, claims_beside, length-set)

released_beside : (device : Option OpenDevice) (m : Machine) (n : ℕ) → Beside m (released device m n)
released_beside device m n = grind (arith, totals_beside, claims_beside, length-set)

dropped_beside : (device : Option OpenDevice) (m : Machine) (n : ℕ) → Beside m (dropped device m n)
dropped_beside device m n = grind (arith, totals_beside, without_rest, claims_beside, length-set)

-- nor does one that comes to something at a device
none_at_devices : (k : Category) (at : Option Kind) (c : Control) (asked : Call) (R : Action → Type 0)
    → has_call k asked ≡ true → MatchOption (device_action k at c asked) ⊥ R → file_call asked ≡ Nothing
none_at_devices HardTotals at c asked R has does = absurd does
none_at_devices k at c asked R has does = grind arith

-- a call of a category's own that nothing refuses is one of its control's category
pub own_of : (m : Machine) (n : ℕ) (c : Control) (asked : Call) → is_common asked ≡ false
    → first_refusal (refusals m n c asked) ≡ None → has_call c.category asked ≡ true
own_of m n c asked own none = search (rules, unless_not, none_applies, own_call)

module _ (m m' : Machine) (n : ℕ) (c : Control) (r : Answer) (at : slice_get m.controls n ≡ Some c) where
  -- what leaves the files alone
  unasked : Beside m m' → StepLeaves [] m (Answered r) m'
  unasked b = beside_leaves [] m m' (Answered r) (λ some. absurd (some refl)) b

  set_leaves : (p : Property) (v : Value) → takes (kind_of m c) p v ≡ true → Does m n c (Set p v) r m'
      → StepLeaves [] m (Answered r) m'
  set_leaves p v may = by (recovers m.totals c p v) refl
    where
      now : Control
      now = after_set (signs_at m c) c p v

      there : Beside m (with_control m n now)
      there = control_beside m n now (λ s. set_seat m.devices (signs_at m c) c p v may (seated m n c s at))

      by : (b : Bool) → recovers m.totals c p v ≡ b → MatchBool b (SetsByRecovery m n c p v r m') (Sets m n c p v r m')
          → StepLeaves [] m (Answered r) m'
      by false plain h = unasked (rw h.1 there)
      by true off (inl h) = record {
        sound = λ s. subst IsSound (sym h.2) (other_totals m'.totals (there.sound s));
        told = λ is. found_told (Answered r)
            (recovers_off (and_parts (asks_recovery c p v) (not (is_ready m.totals.totals.mode)) off).1) h.1;
      }
      by true off (inr h) = unasked (subst (Beside m) (sym h.1) (totals_beside m'.totals (unrecovered h.0)))

  own_leaves : (device : Option OpenDevice) (own : Call) → device ≡ c.device → NoneApplies (own_rows device m n c own)
      → has_call c.category own ≡ true → DoesOwn device m n c own r m'
      → StepLeaves (changes_asked m.totals.totals n (file_call own)) m (Answered r) m'
  own_leaves (Some TheTotals) own is allowed has h = record {
    sound = λ s. subst IsSound (sym h.1) (other_totals m'.totals s);
    told = λ is. files_told (file_call own) m.totals m'.totals n r is h.0;
  }
  own_leaves device own is allowed has h = beside_leaves _ m m' (Answered r) (λ some. absurd (some
      (ap (changes_asked m.totals.totals n) (none_at_devices c.category (kind_of m c) c own _ has h.does)))) (record {
        sound = λ s. on_hardware_sound m _ (λ place before new after stands.
            let here = subst (λ o. StandsAt m.devices (open_place o) before) is stands in
            device_keeps c.category m own r n place c before new after at (served_by m.devices c.category c.cursor.place
            c.device before here.kind (seated m n c s at)) allowed here) h s;
        rest = rw h.machine (same_rest m.totals);
      })

  -- what a call leaves that nothing refuses
  does_leaves : (q : Call) → NoneApplies (refusals m n c q) → (is_common q ≡ false → has_call c.category q ≡ true)
      → Does m n c q r m' → StepLeaves (changes_asked m.totals.totals n (file_call q)) m (Answered r) m'
  does_leaves (Open name) none has h =
      unasked (rw h.1 (control_beside m n _ (λ s. found_open m c.category name s.kinds)))
  does_leaves Close none has h = unasked (rw h.1
      (beside_then (control_beside m n (closed c) (λ s. tt)) (dropped_beside c.device (with_control m n (closed c)) n)))
  does_leaves (Claim timeout) none has h = unasked (rw h.1 (claimed_beside c.device m n))
  does_leaves Release none has h =
      let after = after_release c.category c in
      unasked (rw h.1 (beside_then (control_beside m n after (λ s. released_seat m.devices c.category c
      (seated m n c s at))) (released_beside c.device (with_control m n after) n)))
  does_leaves (Set p v) none has h = search (rules, set_leaves, unless_not)
  does_leaves (Get p) none has h = unasked (same_beside m m' h.1)
  does_leaves own none has h = own_leaves c.device own refl (none_dropped 5 (refusals m n c own) none) (has refl) h

-- ---- steps

-- each step leaves a sound machine, and the files as its event says
step_leaves : (old new : Machine) (r : Response) (q : Request) → Step old q r new
    → StepLeaves (changes_of old q) old r new
step_leaves old new (Answered result) (CallOf n asked) h =
    search (rules, match_cases, beside_leaves, same_beside, decided_cases, does_leaves, none_applies, own_of)
step_leaves old new OutOfMemory (CallOf n asked) h = search (rules, matched, beside_leaves, same_beside)
step_leaves old new r (CallOf n asked) h = absurd h
step_leaves old new (Worked result) (WorkOn name) h =
    beside_leaves [] old new (Worked result) (λ some. absurd (some refl)) (hardware_beside _ h
    (λ place before cs after stands does. works_keep old.devices _ place (Ok result) old.controls before cs after does))
step_leaves old new (Delivered event) (Deliver n reply) h = beside_leaves [] old new (Delivered event)
    (λ some. absurd (some refl)) (elim (match_cases (slice_get old.controls n) _ _ h) [
      | inl x ↦ let (absent, left) = x in let (nothing, same) = left in same_beside old new same
      | inr x ↦
          let (control, found, delivers) = x in
          let (event, taken) = delivers in
          rw taken (control_beside old n (delivered reply control) (λ s. seated old n control s found))
    ])
step_leaves old new r q h = search (
  rules,
  beside_leaves,
  same_beside,
  made_beside,
  attached_beside,
  detached_beside,
  hardware_beside,
  takes_keeps,
)

pub step_sound : {old new : Machine} (q : Request) (r : Response) → Step old q r new → IsSound old → IsSound new
step_sound {old} {new} q r step = (step_leaves old new r q step).sound

-- where a history fits, it goes on fitting
pub step_fits : {history : History} (old : Machine) (q : Request) (r : Response) (new : Machine)
    → Fits history old.totals → Step old q r new → Fits (history_with history old q r new) new.totals
step_fits old q r new fits step = search (rules, step_leaves, fits_next)
