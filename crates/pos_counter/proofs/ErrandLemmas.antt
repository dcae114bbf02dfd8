-- A counter of whose disk something was taken out that it kept for its owner: it is the same, and so is what a crash
-- leaves of it.
use Rattle.pos_counter.proofs.Common.{◌++◌, Counter, DiskGhosts, Ghosts, HasRun, IsCounterSound, IsLeftDuring, Layout}
use Rattle.pos_counter.proofs.Common.{Leaves, List, Machine, PlainFile, Request, Response, Run, RunsFrom, Standing, []}
use Rattle.pos_counter.proofs.Common.{ap, history_of, history_until, inl, inr, machine, part_of, part_with, refl, subst}
use Rattle.pos_counter.proofs.Common.{sym, ℕ, ◌∷◌, ◌≡◌}
use Rattle.pos_counter.proofs.RunLemmas.{left_first, run_append}
use Rattle.pos_counter.specs.Errands.{HasRunSame, IsSameCounter, over_disk}
use Rattle.pos_disk.proofs.MomentLemmas.{followed_by, weaker}
use Rattle.pos_disk.proofs.SameDiskLemmas.{leaves_after, leaves_before, same_again, same_may}
use Rattle.pos_disk.specs.Keeps.{KeepsState}
use Rattle.pos_disk.specs.State.{LeavesOnly}
use Rattle.std.proofs.Math.Path.{path_j, subst_refl}

module _ {D P : Type 0} (bound : DiskGhosts D) (peripherals : Ghosts P) (old : Counter D P) (disk : D)
    (keeps : KeepsState bound old.totals.disk disk) where
  abbrev over : Counter D P
  over = over_disk old disk

  over_sound : IsCounterSound peripherals old → IsCounterSound peripherals over
  over_sound sound = record { machine = sound.machine; devices = sound.devices }

  -- a crash leaves the same
  over_leaves : (left : List Standing) → Leaves bound old.totals left → Leaves bound over.totals left
  over_leaves left leaves = record {
    honest = keeps.honest.0 leaves.honest;
    leaves = λ bytes may. leaves.leaves bytes (same_may (bound.state disk) (bound.state old.totals.disk) bytes
        (same_again (bound.state old.totals.disk) (bound.state disk) (keeps.same leaves.honest)) may);
    is_settled = leaves.is_settled;
  }

  -- the machine is the same
  over_machine : bound.honest old.totals.disk → (left : List Standing) → machine peripherals over
      (part_of bound over.totals left) ≡ machine peripherals old (part_of bound old.totals left)
  over_machine honest left = ap (λ (n : ℕ). machine peripherals old (part_with old.totals.totals left n))
      (keeps.same honest).failures

  -- a run before it
  over_before : (first : Counter D P) (left : List Standing) (steps : List (Request × Response))
      → RunsFrom bound peripherals left first steps old → RunsFrom bound peripherals left first steps over
  over_before first left steps runs =
      let A = machine peripherals first (part_of bound first.totals left) in
      let P : Machine → Type 0 = λ M. (run : Run A steps M)
      × LeavesOnly (bound.state first.totals.disk) (bound.state old.totals.disk) (IsLeftDuring A steps M run) in
      let moved : P (machine peripherals over (part_of bound over.totals runs.after)) =
      subst P (sym (over_machine runs.leaves.honest runs.after)) (runs.run, runs.any_moment) in
      record {
        after = runs.after;
        leaves = over_leaves runs.after runs.leaves;
        run = moved.0;
        any_moment = leaves_before (bound.state first.totals.disk) (bound.state old.totals.disk) (bound.state disk)
            (IsLeftDuring A steps (machine peripherals over (part_of bound over.totals runs.after)) moved.0) moved.1
            (keeps.same runs.leaves.honest);
      }

  -- a run after it
  over_after : (last : Counter D P) (left : List Standing) (steps : List (Request × Response))
      → Leaves bound old.totals left → RunsFrom bound peripherals left over steps last
      → RunsFrom bound peripherals left old steps last
  over_after last left steps leaves runs =
      let B = machine peripherals last (part_of bound last.totals runs.after) in
      let P : Machine → Type 0 = λ M. (run : Run M steps B)
      × LeavesOnly (bound.state disk) (bound.state last.totals.disk) (IsLeftDuring M steps B run) in
      let moved : P (machine peripherals old (part_of bound old.totals left)) =
      subst P (over_machine leaves.honest left) (runs.run, runs.any_moment) in
      record {
        after = runs.after;
        leaves = runs.leaves;
        run = moved.0;
        any_moment = leaves_after (bound.state old.totals.disk) (bound.state disk) (bound.state last.totals.disk)
            (IsLeftDuring (machine peripherals old (part_of bound old.totals left)) steps B moved.0)
            (keeps.same leaves.honest) moved.1;
      }

  -- it has run through the same
  over_run : (layout : Layout) (start : List PlainFile) (sequence : ℕ) (steps : List (Request × Response))
      (past : HasRun bound peripherals layout start sequence steps old)
      → HasRunSame bound peripherals layout start sequence steps old past over
  over_run layout start sequence steps past =
      let A = machine peripherals past.first (part_of bound past.first.totals _) in
      let e = over_machine past.leaves.honest past.left in
      let P : Machine → Type 0 =
      λ M. (run : Run A steps M) × (history_of layout start A steps M run ≡ history_until past) in
      let moved : P (machine peripherals over (part_of bound over.totals past.left)) =
      subst P (sym e) (past.run, refl) in
      record {
        now = record {
          first = past.first;
          begins = past.begins;
          left = past.left;
          leaves = over_leaves past.left past.leaves;
          run = moved.0;
        };
        machine = e;
        history = moved.1;
      }

-- ---- the same for a counter that is the same

module _ {D P : Type 0} (bound : DiskGhosts D) (peripherals : Ghosts P) {old new : Counter D P}
    (is : IsSameCounter bound old new) where
  pub same_sound : IsCounterSound peripherals old → IsCounterSound peripherals new
  same_sound sound = subst (IsCounterSound peripherals) (sym is.same)
      (over_sound bound peripherals old new.totals.disk is.disk sound)

  pub same_before : (first : Counter D P) (left : List Standing) (steps : List (Request × Response))
      → RunsFrom bound peripherals left first steps old → RunsFrom bound peripherals left first steps new
  same_before first left steps runs = subst (λ (c : Counter D P). RunsFrom bound peripherals left first steps c)
      (sym is.same) (over_before bound peripherals old new.totals.disk is.disk first left steps runs)

  pub same_after : (last : Counter D P) (left : List Standing) (steps : List (Request × Response))
      → Leaves bound old.totals left → RunsFrom bound peripherals left new steps last
      → RunsFrom bound peripherals left old steps last
  same_after last left steps leaves runs = over_after bound peripherals old new.totals.disk is.disk last left steps
      leaves (subst (λ (c : Counter D P). RunsFrom bound peripherals left c steps last) is.same runs)

  pub same_run : (layout : Layout) (start : List PlainFile) (sequence : ℕ) (steps : List (Request × Response))
      (past : HasRun bound peripherals layout start sequence steps old)
      → HasRunSame bound peripherals layout start sequence steps old past new
  same_run layout start sequence steps past =
      subst (λ (c : Counter D P). HasRunSame bound peripherals layout start sequence steps old past c) (sym is.same)
      (over_run bound peripherals old new.totals.disk is.disk layout start sequence steps past)

-- ---- one run after another

-- what is left during a run is left during it and one more
front_left : (a b c : Machine) (steps more : List (Request × Response)) (run : Run a steps b) (rest : Run b more c)
    (bytes : List ℕ) → IsLeftDuring a steps b run bytes
    → IsLeftDuring a (steps ++ more) c (run_append a b c steps more run rest) bytes
unfolding run_append
front_left a b c [] more run rest bytes h = left_first a c more (subst (λ m. Run m more c) run rest) bytes h
front_left a b c (s ∷ steps) more run rest bytes (inl h) = inl h
front_left a b c (s ∷ steps) more run rest bytes (inr h) = inr (front_left run.0 b c steps more run.2 rest bytes h)

back_left : (a b c : Machine) (steps more : List (Request × Response)) (run : Run a steps b) (rest : Run b more c)
    (bytes : List ℕ) → IsLeftDuring b more c rest bytes
    → IsLeftDuring a (steps ++ more) c (run_append a b c steps more run rest) bytes
unfolding run_append
back_left a b c [] more run rest bytes h =
    path_j (λ m e. IsLeftDuring m more c (subst (λ n. Run n more c) e rest) bytes)
    (subst (λ r. IsLeftDuring b more c r bytes) (sym (subst_refl (λ n. Run n more c) rest)) h) run
back_left a b c (s ∷ steps) more run rest bytes h = inr (back_left run.0 b c steps more run.2 rest bytes h)

pub runs_on : {D P : Type 0} (bound : DiskGhosts D) (peripherals : Ghosts P) (first mid : Counter D P)
    {last : Counter D P} (left : List Standing) (steps more : List (Request × Response))
    (runs : RunsFrom bound peripherals left first steps mid) → RunsFrom bound peripherals runs.after mid more last
    → RunsFrom bound peripherals left first (steps ++ more) last
runs_on bound peripherals first mid {last} left steps more runs rest =
    let A = machine peripherals first (part_of bound first.totals left) in
    let B = machine peripherals mid (part_of bound mid.totals runs.after) in
    let C = machine peripherals last (part_of bound last.totals rest.after) in
    let whole = run_append A B C steps more runs.run rest.run in
    let P : List ℕ → Type 0 = IsLeftDuring A (steps ++ more) C whole in record {
      after = rest.after;
      leaves = rest.leaves;
      run = whole;
      any_moment = followed_by (bound.state first.totals.disk) (bound.state mid.totals.disk)
          (bound.state last.totals.disk) P (weaker (bound.state first.totals.disk) (bound.state mid.totals.disk)
          (IsLeftDuring A steps B runs.run) P (front_left A B C steps more runs.run rest.run) runs.any_moment)
          (weaker (bound.state mid.totals.disk) (bound.state last.totals.disk) (IsLeftDuring B more C rest.run) P
          (back_left A B C steps more runs.run rest.run) rest.any_moment);
    }
