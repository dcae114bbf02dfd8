-- What the loops over the events that don't wait keep.
use Rattle.pos_events.proofs.Common.{Enqueued, List, PlacedEvent, [], all_before, ap, append_assoc, arith, false}
use Rattle.pos_events.proofs.Common.{get_or, get_or-map, is_error, length, length-append, map-set, set, set-get_or}
use Rattle.pos_events.proofs.Common.{take, take_more_set, event_of_immediate, immediate_events, true, without_errors, ℕ}
use Rattle.pos_events.proofs.Common.{◌++◌, ◌+◌, ◌<◌, ◌∷◌, ◌≡◌, ◌≤◌}

-- what stands before two parts
pub all_before-append : (immediate more : List PlacedEvent)
    → all_before (immediate ++ more) ≡ all_before immediate + all_before more
all_before-append [] more = omega arith
all_before-append (placed ∷ immediate) more = omega (arith, all_before-append immediate more)

-- the counts alone change
pub tolds_set : (immediate : List PlacedEvent) (i : ℕ) (d placed : PlacedEvent) → i < length immediate
    → placed.event ≡ (get_or immediate i d).event
    → immediate_events (set immediate i placed) ≡ immediate_events immediate
tolds_set immediate i d placed lt e =
    let f : PlacedEvent → Enqueued = λ (o : PlacedEvent). event_of_immediate o.event in
    grind (
      arith,
      map-set f immediate i placed,
      get_or-map f immediate i d (f d) lt,
      set-get_or (immediate_events immediate) i (f d),
    )

-- one more before which nothing waits
pub none_more : (immediate : List PlacedEvent) (i : ℕ) (placed : PlacedEvent) → i < length immediate → placed.before ≡ 0
    → all_before (take i immediate) ≡ 0 → all_before (take (i + 1) (set immediate i placed)) ≡ 0
none_more immediate i placed lt e none = grind (arith, take_more_set, all_before-append)

-- Of the others, some are still to be looked at, and those that stay stand behind them; so many waiting events are
-- carried to the next.
pub record Removing (start rest : List PlacedEvent) (carried : ℕ) (now : List PlacedEvent) : Type 0 where
  pub done : List PlacedEvent
  pub parts : now ≡ rest ++ done
  pub same : done ++ without_errors carried rest ≡ without_errors 0 start
  pub counted : all_before done + carried + all_before rest ≡ all_before start

-- the next stays
pub removing_kept : {start rest now more : List PlacedEvent} {first placed : PlacedEvent} (carried : ℕ)
    → Removing start (first ∷ rest) carried now → now ≡ placed ∷ more → is_error placed.event ≡ false
    → Removing start rest 0 (more ++ record { before = carried + placed.before; event = placed.event } ∷ [])
removing_kept {placed} carried r e stays =
    let kept : PlacedEvent = record { before = carried + placed.before; event = placed.event } in
    record {
      done = r.done ++ kept ∷ [];
      parts = grind (arith, append_assoc);
      same = grind (arith, append_assoc);
      counted = grind (arith, all_before-append);
    }

-- the next is deleted
pub removing_error : {start rest now more : List PlacedEvent} {first placed : PlacedEvent} {carried : ℕ}
    → Removing start (first ∷ rest) carried now → now ≡ placed ∷ more → is_error placed.event ≡ true
    → Removing start rest (carried + placed.before) more
removing_error r e goes = record { done = r.done; parts = grind arith; same = grind arith; counted = grind arith }

-- while some are to be looked at, there are some
pub removing_some : {start rest now : List PlacedEvent} {carried : ℕ} → Removing start rest carried now
    → length rest ≤ length now
removing_some {rest} r = omega (arith, ap length r.parts, length-append rest r.done)
