-- Whether a delivery to a control gives an event.
use Rattle.pos_counter.proofs.Common.{Control, Device, KeptControl, List, Machine, None, Option, Some, TotalsPart}
use Rattle.pos_counter.proofs.Common.{arith, controls_of, false, get_or, is_some, length, length-map, machine_with}
use Rattle.pos_counter.proofs.Common.{refl, slice_get, subst, true, ℕ, ◌+◌, ◌<◌, ◌≡◌, ◌≤◌, ⊎_elim}
use Rattle.std.proofs.lemmas.Bool.{cases_lt}
use Rattle.std.proofs.lemmas.Option.{slice_get_past}
use Rattle.pos_counter.proofs.LiftLemmas.{kept_at}
use Rattle.pos_counter.specs.NextEvent.{GivesEvent, GivesNone}
use Rattle.pos_service.specs.declared.event.Event.{Event}
use Rattle.pos_service.specs.Controls.{deliverable}

none_there : (event : Option Event) → is_some event ≡ false → event ≡ None
none_there None none = refl
none_there (Some event) none = grind arith

-- each delivery to a control gives the event that may be delivered to it
gives : (machine : Machine) (number : ℕ) {control : Control} → slice_get machine.controls number ≡ Some control
    → is_some (deliverable control) ≡ true → GivesEvent machine number
gives machine number is some reply event after step = let given = rw is at step in rw given.0 some

gives_none : (machine : Machine) (number : ℕ) (control : Control) → slice_get machine.controls number ≡ Some control
    → is_some (deliverable control) ≡ false → GivesNone machine number
gives_none machine number control is none reply event after step =
    let given = rw is at step in rw given.0 (none_there (deliverable control) none)

-- a control that isn't there gives none
past_none : (machine : Machine) (number : ℕ) → slice_get machine.controls number ≡ None → GivesNone machine number
past_none machine number is reply event after step = let given = rw is at step in given.0

pub kept_none : (hs : List KeptControl) (cl : List (Option ℕ)) (ds : List Device) (tn : Option (List ℕ))
    (part : TotalsPart) (number : ℕ) {h : KeptControl} → number < length hs → h ≡ get_or hs number h
    → is_some (deliverable h.control) ≡ false → GivesNone (machine_with hs cl ds tn part) number
kept_none hs cl ds tn part number {h} within is none =
    gives_none (machine_with hs cl ds tn part) number h.control (kept_at hs number h within is) none

pub none_past : (hs : List KeptControl) (cl : List (Option ℕ)) (ds : List Device) (tn : Option (List ℕ))
    (part : TotalsPart) (number : ℕ) → length hs ≤ number → GivesNone (machine_with hs cl ds tn part) number
none_past hs cl ds tn part number past = past_none (machine_with hs cl ds tn part) number
    (slice_get_past (controls_of hs) number (rw (length-map hs (λ (held : KeptControl). held.control)) past))

-- what is so of each number before one, and of that one, is so of each before the next
pub each_more : (P : ℕ → Type 0) {from : ℕ} (number : ℕ) → ((lower : ℕ) → from ≤ lower → lower < number → P lower)
    → P number → (lower : ℕ) → from ≤ lower → lower < number + 1 → P lower
each_more P number before here lower above below = ⊎_elim (λ less. before lower above less)
    (λ reached. subst P (omega (arith, below, reached)) here) (cases_lt lower number)

-- what is so of each number before one, and of each from an earlier one on, is so of all
pub each_all : (P : ℕ → Type 0) {from number end : ℕ} → ((lower : ℕ) → from ≤ lower → lower < number → P lower)
    → end ≤ number → ((later : ℕ) → end ≤ later → P later) → (any : ℕ) → from ≤ any → P any
each_all P {number} before over past any above =
    ⊎_elim (λ less. before any above less) (λ reached. past any (omega (arith, over, reached))) (cases_lt any number)
