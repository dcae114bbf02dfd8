-- A request that is queued, as the machine sees it.
use Rattle.pos_common.proofs.Common.{Answer, Control, Err, Hardware, IsTrue, KeptControl, List, MatchOption}
use Rattle.pos_common.proofs.Common.{MatchResult, NoMemory, None, NothingChanges, Ok, Option, Result, Some, TurnsInto}
use Rattle.pos_common.proofs.Common.{ap, arith, controls_of, first_refusal, get_or, length, length-map, queued, refl}
use Rattle.pos_common.proofs.Common.{set, slice_get-get_or, ℕ, ◌<◌, ◌≡◌}
use Rattle.pos_service.specs.Actions.{Does, QueuesOrder, id_rows, may_want}
use Rattle.pos_service.specs.declared.order.Order.{Order}
use Rattle.pos_service.specs.declared.action.Action.TheVariants as action
use Rattle.pos_common.proofs.ChangeLemmas.{changed_at}
use Rattle.pos_common.proofs.KeptLemmas.{control_at, same_control}

weaker : {A : Type 0} (o : Option A) (P R : Type 0) (Q S : A → Type 0) → (P → R) → ((x : A) → Q x → S x)
    → MatchOption o P Q → MatchOption o R S
weaker None P R Q S f g h = f h
weaker (Some x) P R Q S f g h = g x h

-- what a held control says of a request is what the machine's control does
pub says_at : (given : Order) (hs : List KeptControl) (i : ℕ) (d g : KeptControl) (outcome : Result Answer NoMemory)
    (at : Hardware) → i < length hs → MatchResult outcome (λ result. TurnsInto (id_rows (get_or hs i d).control) result
    (get_or hs i d) g (queued given (get_or hs i d).control)) (λ want. g ≡ get_or hs i d)
    → MatchResult outcome (λ result. QueuesOrder given i result (controls_of hs) at (controls_of (set hs i g)) at)
    (λ want. NothingChanges (controls_of hs) at (controls_of (set hs i g)) at)
says_at given hs i d g (Ok result) at lt turns =
    let within : i < length (controls_of hs) = omega (arith, length-map hs (λ (x : KeptControl). x.control)) in
    rw (slice_get-get_or (controls_of hs) i d.control within, ← control_at hs i d d.control lt) (record {
      outcome = weaker (first_refusal (id_rows (get_or hs i d).control)) _ _ _ _
          (λ done. record { done = done.0; controls = changed_at (queued given) hs i d g lt done.1; hardware = refl })
          (λ refusal same. (
            same.0,
            record {
              controls = same_control hs i d g lt (ap (λ (h : KeptControl). h.control) same.1);
              hardware = refl;
            },
          )) turns.outcome;
    })
says_at given hs i d g (Err want) at lt same = grind (arith, same_control hs i d g)

-- as what a call comes to
pub queued_of : (given : Order) (number place : ℕ) (outcome : Result Answer NoMemory) (old new : List Control)
    (at : Hardware)
    → MatchResult outcome (λ result. QueuesOrder given number result old at new at)
    (λ want. NothingChanges old at new at)
    → MatchResult outcome (λ result. Does (action.Queues given) number place result old at new at)
    (λ want. IsTrue (may_want (action.Queues given)) × NothingChanges old at new at)
queued_of given number place outcome old new at h = grind arith
