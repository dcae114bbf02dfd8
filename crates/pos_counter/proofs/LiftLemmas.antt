-- From what a call does to one control to what it does to the machine.
use Rattle.pos_counter.proofs.Common.{◌<◌, Answer, Answered, Call, CallOf, Control, Decided, Device, Does, Get, Gets}
use Rattle.pos_counter.proofs.Common.{IsUndone, KeptControl, List, Machine, MatchOption, NoMemory, None, Option}
use Rattle.pos_counter.proofs.Common.{Property, Refused, Result, Row, Some, Step, TotalsPart, [], answered, ap, arith}
use Rattle.pos_counter.proofs.Common.{cond_both, controls_of, context_of, first_refusal, get_or, get_or_default}
use Rattle.pos_counter.proofs.Common.{get_rows, holder_of, inl, inr, length, machine_with, map-set, option_map}
use Rattle.pos_counter.proofs.Common.{property_of, refusals, rules, set, set-get_or, slice_get, slice_get-get_or}
use Rattle.pos_counter.proofs.Common.{slice_get-map, sym, with_control, ℕ, ◌∙◌, ◌∷◌, ◌≡◌, ◌⊎◌, ⊤}

-- a match was of none, or of some
pub match_cases : {A : Type 0} (o : Option A) (P : Type 0) (R : A → Type 0) → MatchOption o P R
    → ((o ≡ None) × P) ⊎ ((a : A) × (o ≡ Some a) × R a)
match_cases o P R h = grind arith

-- a match that none doesn't meet was of some
pub matched : {A : Type 0} (o : Option A) (R : A → Type 0) → MatchOption o ⊥ R → (a : A) × (o ≡ Some a) × R a
matched o R h = grind arith

-- a match holds still where both its sides are weakened
pub match_weaker : {A : Type 0} (o : Option A) (P Q : Type 0) (R S : A → Type 0) → (P → Q) → ((a : A) → R a → S a)
    → MatchOption o P R → MatchOption o Q S
match_weaker o P Q R S f g h = grind arith

-- a table's decision, weakened
pub decided_weaker : {rows : List Row} {result : Answer} {Same Done Kept Did : Type 0} → (Done → Did) → (Same → Kept)
    → Decided rows result Same Done → Decided rows result Kept Did
decided_weaker done same d = search (rules, match_weaker)

-- a table that refuses nothing, and one that refuses
pub decided_none : {rows : List Row} {result : Answer} {Same Done : Type 0} → first_refusal rows ≡ None → Done
    → Decided rows result Same Done
decided_none none done = record { outcome = rw none done }

pub decided_some : {rows : List Row} {result refusal : Answer} {Same Done : Type 0} → first_refusal rows ≡ Some refusal
    → result ≡ refusal → Same → Decided rows result Same Done
decided_some some is same = record { outcome = rw some (is, same) }

-- a refusal acknowledges nothing
pub refused_undone : (rows : List Row) → MatchOption (first_refusal rows) ⊤ (λ refusal. IsUndone (Answered refusal))
refused_undone [] = tt
refused_undone (row ∷ rows) = cond_both row.applies (Some (Refused row.code row.extended)) (first_refusal rows)
    (λ o. MatchOption o ⊤ (λ refusal. IsUndone (Answered refusal))) (λ yes. tt) (λ no. refused_undone rows)

-- a table refuses nothing, and its call is done, or its refusal acknowledges nothing
pub decided_cases : {rows : List Row} {result : Answer} {Same Done : Type 0} → Decided rows result Same Done
    → ((first_refusal rows ≡ None) × Done) ⊎ (IsUndone (Answered result) × Same)
decided_cases {rows} d = elim (match_cases (first_refusal rows) _ _ d.outcome) [
  | inl x ↦ inl x
  | inr x ↦
      let (refusal, first, refused) = x in
      let (is, same) = refused in
      inr (rw is (rw first at (refused_undone rows)), same)
]

-- the control with a number that is given, as the machine sees it
pub control_at : (hs : List KeptControl) (n : ℕ) (d : KeptControl) → n < length hs
    → slice_get (controls_of hs) n ≡ Some (get_or hs n d).control
control_at hs n d lt = slice_get-map (λ (h : KeptControl). h.control) hs n
    ∙ ap (option_map (λ (h : KeptControl). h.control)) (slice_get-get_or hs n d lt)

-- the control that is kept at a place, as the machine sees it
pub kept_at : (hs : List KeptControl) (n : ℕ) (h : KeptControl) → n < length hs → h ≡ get_or hs n h
    → slice_get (controls_of hs) n ≡ Some h.control
kept_at hs n h lt is = control_at hs n h lt ∙ ap (λ (k : KeptControl). Some k.control) (sym is)

-- it is one
pub kept_same : (hs : List KeptControl) {n : ℕ} {h : KeptControl} (k : KeptControl) → n < length hs → h ≡ get_or hs n h
    → k ≡ get_or hs n k → h ≡ k
kept_same hs {n} {h} k lt is also = is ∙ get_or_default hs n h k lt ∙ sym also

-- the machine with one control in the place of another
pub set_machine : (hs : List KeptControl) (cl : List (Option ℕ)) (ds : List Device) (tn : Option (List ℕ))
    (part : TotalsPart) (n : ℕ) (g : KeptControl) {c : Control} → g.control ≡ c
    → machine_with (set hs n g) cl ds tn part ≡ with_control (machine_with hs cl ds tn part) n c
set_machine hs cl ds tn part n g e = search (rules, map-set)

-- the machine whose control is as it was
pub kept_machine : (hs : List KeptControl) (cl : List (Option ℕ)) (ds : List Device) (tn : Option (List ℕ))
    (part : TotalsPart) (n : ℕ) {g h : KeptControl} → g ≡ h → h ≡ get_or hs n h
    → machine_with (set hs n g) cl ds tn part ≡ machine_with hs cl ds tn part
kept_machine hs cl ds tn part n {h} same is =
    ap (λ (ks : List KeptControl). machine_with ks cl ds tn part) (ap (set hs n) (same ∙ is) ∙ set-get_or hs n h)

-- a call that other rows decide, with the same refusal, is a step
pub decided_step : (m m' : Machine) (n : ℕ) (c : Control) (asked : Call) (r : Answer) (rows : List Row)
    (Same Done : Type 0) → slice_get m.controls n ≡ Some c → first_refusal (refusals m n c asked) ≡ first_refusal rows
    → (Same → m' ≡ m) → (Done → Does m n c asked r m') → Decided rows r Same Done
    → Step m (CallOf n asked) (Answered r) m'
decided_step m m' n c asked r rows Same Done found refused same does d =
    rw found (record { outcome = rw refused (decided_weaker does same d).outcome })

-- a property that is told, or for which there is no memory, is a step
pub get_step : (m : Machine) (n : ℕ) {c : Control} (p : Property) (r : Result Answer NoMemory)
    → slice_get m.controls n ≡ Some c
    → Gets (get_rows n (holder_of m c) c (context_of m n c) p) p (property_of c (context_of m n c) p) r
    → Step m (CallOf n (Get p)) (answered r) m
get_step m n p r found h = grind (arith, decided_step)
