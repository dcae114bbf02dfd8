-- A call of the totals' own as a step of the machine.
use Rattle.pos_counter.proofs.Common.{Answer, Call, CallOf, CallsFiles, Control, Counter, DiskGhosts, FilesCalled}
use Rattle.pos_counter.proofs.Common.{GivesOrders, open_place}
use Rattle.pos_counter.proofs.Common.{Ghosts, TheTotals, IsCounterSound, IsDone, IsReady, IsUndone, List, Machine}
use Rattle.pos_counter.proofs.Common.{Mode, NoMemory, Result, Serves, Some, SparesDisk, SparesFiles, Standing, Step}
use Rattle.pos_counter.proofs.Common.{TotalsPart, TotalsView, TurnsOff, answered, ap, arith, own_rows, controls_of}
use Rattle.pos_counter.proofs.Common.{false, file_call, file_rows, first_refusal, inl, inr, is_common, machine, part_of}
use Rattle.pos_counter.proofs.Common.{part_with, refl, refusals, rules, slice_get, ℕ, ◌∙◌, ◌≡◌}
use Rattle.pos_counter.proofs.HardwareLemmas.{IsLet, let_refusals, own_call}
use Rattle.pos_counter.proofs.LiftLemmas.{decided_step}
use Rattle.pos_counter.proofs.OrderLemmas.{call_given, placeless_orders}
use Rattle.pos_counter.proofs.ServiceLemmas.{OnlyNow, quiet_serves}
use Rattle.pos_counter.specs.Orders.{orders_in}

module _ (m : Machine) (n : ℕ) (c : Control) (asked : Call) (own : is_common asked ≡ false)
    (found : slice_get m.controls n ≡ Some c) (is : c.device ≡ Some TheTotals) (lets : IsLet m n c asked) where
  -- behind the check of an open control of Hard Totals, the totals' refusals decide
  totals_refusals : first_refusal (refusals m n c asked) ≡ first_refusal (file_rows m.totals.totals n (file_call asked))
  totals_refusals = let_refusals m n c asked own lets ∙ ap (λ d. first_refusal (own_rows d m n c asked)) is

  -- what the totals do with a call on an enabled control is a step
  called_step : (part : TotalsPart) (outcome : Result Answer NoMemory) → FilesCalled n asked m.totals outcome part
      → Step m (CallOf n asked) (answered outcome) (record m { totals = part })
  called_step part outcome h = grind (arith, decided_step, totals_refusals, own_call)

  -- behind its control's check, it leaves the disk alone exactly where the totals do
  spares_own : SparesDisk m (CallOf n asked) → SparesFiles m.totals.totals n (file_call asked)
  spares_own spares = search (rules, totals_refusals)

-- what isn't answered to be done wasn't done
not_done : (outcome : Result Answer NoMemory) → IsUndone (answered outcome) → IsDone outcome → ⊥
not_done outcome undone done = grind arith

-- a disk that a call has touched in which the totals stay ready
still_ready : (old new : Mode) → TurnsOff old new → IsReady new → ⊥
still_ready old new turns ready = grind arith

-- a call of the totals' own gives no order
totals_given : {D P : Type 0} (peripherals : Ghosts P) (old : Counter D P) (n : ℕ) (c : Control) (asked : Call)
    (outcome : Result Answer NoMemory) → slice_get (controls_of old.controls.items) n ≡ Some c
    → c.device ≡ Some TheTotals → GivesOrders peripherals old (CallOf n asked) (answered outcome) old
totals_given peripherals old n c asked outcome found is part =
    let m = machine peripherals old part in
    let orders = orders_in peripherals old.devices in
    call_given m n asked outcome orders orders (placeless_orders m n asked c outcome orders found (ap open_place is))

-- a call of the totals' own that its control may make
pub files_serve : {D P : Type 0} (bound : DiskGhosts D) (peripherals : Ghosts P) (old : Counter D P)
    {now : TotalsView D} (n : ℕ) (c : Control) (asked : Call) (outcome : Result Answer NoMemory)
    → is_common asked ≡ false → slice_get (controls_of old.controls.items) n ≡ Some c → c.device ≡ Some TheTotals
    → ((left : List Standing) (failures : ℕ)
    → IsLet (machine peripherals old (part_with old.totals.totals left failures)) n c asked)
    → OnlyNow bound old.totals.disk → CallsFiles bound old.totals n asked outcome now → IsCounterSound peripherals old
    → Serves bound peripherals old (CallOf n asked) (answered outcome) (record old { totals = now })
files_serve bound peripherals old {now} n c asked outcome own at is lets only (inl quiet) sound =
    quiet_serves bound peripherals old (record old { totals = now }) (CallOf n asked)
    (answered outcome) refl (totals_given peripherals old n c asked outcome at is) now.totals only quiet.disk refl
    quiet.is_settled sound sound.devices
    (λ left failures so. called_step (machine peripherals old (part_with old.totals.totals left failures)) n c asked own
    at is (lets left failures) (part_with now.totals left failures) outcome (quiet.answer left failures so))
files_serve bound peripherals old {now} n c asked outcome own found is lets only (inr puts) sound = record {
  step = record {
    steps = λ left leaves.
        let f = puts.steps left leaves in
        record {
          after = f.after;
          leaves = f.leaves;
          step = called_step (machine peripherals old (part_of bound old.totals left)) n c asked own found is
              (lets left (bound.state old.totals.disk).failures) (part_of bound now f.after) outcome f.answer;
          any_moment = f.any_moment;
        };
    spared = λ left failures spares. absurd (puts.uses (spares_own (machine peripherals old
        (part_with old.totals.totals left failures)) n c asked own found is (lets left failures) spares));
    otherwise = λ left failures. inr (rw found (is, inl refl));
    unchanged = λ undone was ready. elim (puts.unchanged (not_done outcome undone)) [
      | inl turns ↦ absurd (still_ready old.totals.totals.mode now.totals.mode turns ready)
      | inr same ↦ same
    ];
    kept = puts.kept;
    orders = totals_given peripherals old n c asked outcome found is;
    tally = refl;
  };
  sound = record { machine = sound.machine; devices = sound.devices };
}
