-- A run goes on by one more step.
use Rattle.pos_counter.proofs.Common.{◌++◌, Counter, DiskGhosts, Ghosts, IsLeftDuring, IsRun, IsStep, IsStepBeside}
use Rattle.pos_counter.proofs.Common.{Leaves, List, Machine, MayLeave, Run, RunsFrom, Standing, StandsForEither}
use Rattle.pos_counter.proofs.Common.{StandsForOneOf, Step, [], arith, inl, inr, length, machine_of_counter, part_of}
use Rattle.pos_counter.proofs.Common.{ap, refl, request_of, response_of, rules, steps_of, subst, sym, ℕ, ◌∙◌, ◌∷◌}
use Rattle.pos_counter.proofs.Common.{◌≡◌}
use Rattle.pos_counter.specs.Steps as machine
use Rattle.pos_disk.proofs.MomentLemmas.{followed_by, started, weaker}
use Rattle.pos_service.specs.declared.request.Request.{Request}
use Rattle.pos_service.specs.declared.request.Response.{Response}
use Rattle.pos_counter.proofs.ServiceLemmas.{OnlyNow, beside_is_step}

-- one more request and its response are one more step
pub steps_push : {P : Type 0} (peripherals : Ghosts P) (qs : List (Request (Unit {0}) ℕ P)) (rs : List (Response P))
    (q : Request (Unit {0}) ℕ P) (r : Response P) → length rs ≡ length qs → steps_of peripherals (qs ++ q ∷ [])
    (rs ++ r ∷ []) ≡ steps_of peripherals qs rs ++ (request_of peripherals q, response_of peripherals r) ∷ []
steps_push peripherals [] [] q r same = refl
steps_push peripherals (p ∷ qs) (s ∷ rs) q r same = search (rules, (steps_push peripherals qs rs q r (omega arith)))
steps_push peripherals qs rs q r same = cc

-- one run after another
unfoldable pub run_append : (a b c : Machine) (steps more : List (machine.Request × machine.Response)) → Run a steps b
    → Run b more c → Run a (steps ++ more) c
run_append a b c [] more run rest = subst (λ m. Run m more c) run rest
run_append a b c (s ∷ steps) more run rest = (run.0, run.1, run_append run.0 b c steps more run.2 rest)

-- what is left before a run is left during it
pub left_first : (a c : Machine) (more : List (machine.Request × machine.Response)) (run : Run a more c)
    (bytes : List ℕ) → StandsForOneOf a.totals.left bytes → IsLeftDuring a more c run bytes
left_first a c [] run bytes h = h
left_first a c (s ∷ more) run bytes h = inl h

-- and so is what is left before or after its first step
left_beside : (a b c : Machine) (s : machine.Request × machine.Response)
    (more : List (machine.Request × machine.Response)) (step : Step a s.0 s.1 b) (run : Run b more c) (bytes : List ℕ)
    → StandsForEither a.totals.left b.totals.left bytes → IsLeftDuring a (s ∷ more) c (b, step, run) bytes
left_beside a b c s more step run bytes h = grind (arith, left_first)

module _ {D P : Type 0} (bound : DiskGhosts D) (peripherals : Ghosts P) where
  -- a run with one step more
  pub runs_more : (a : Counter D P) {b c : Counter D P} (steps : List (machine.Request × machine.Response))
      {q : machine.Request} {r : machine.Response} → IsRun bound peripherals a steps b
      → IsStep bound peripherals b q r c → IsRun bound peripherals a (steps ++ (q, r) ∷ []) c
  runs_more a {c} [] {q} {r} run next = (c, subst (λ m. IsStep bound peripherals m q r c) run next, refl)
  runs_more a (s ∷ steps) run next = (run.0, run.1, runs_more run.0 steps run.2 next)

  -- a step is a run
  pub one_step : (a b : Counter D P) (q : machine.Request) (r : machine.Response) → IsStep bound peripherals a q r b
      → IsRun bound peripherals a ((q, r) ∷ []) b
  one_step a b q r next = (b, next, refl)

  -- one run after another is a run
  pub runs_join : (a b c : Counter D P) (steps more : List (machine.Request × machine.Response))
      → IsRun bound peripherals a steps b → IsRun bound peripherals b more c
      → IsRun bound peripherals a (steps ++ more) c
  runs_join a b c [] more first second = subst (λ m. IsRun bound peripherals m more c) first second
  runs_join a b c (s ∷ steps) more first second = (first.0, first.1, runs_join first.0 b c steps more first.2 second)

  -- nothing passes between a counter and its host in a run
  pub run_tally : (a b : Counter D P) (steps : List (machine.Request × machine.Response))
      → IsRun bound peripherals a steps b → b.tally ≡ a.tally
  run_tally a b [] run = ap (λ (c : Counter D P). c.tally) run
  run_tally a b (s ∷ steps) run = run_tally run.0 b steps run.2 ∙ run.1.tally

  -- the machine's run, and what the disk may leave after it
  abbrev pub MachineRuns : List Standing → Counter D P → List (machine.Request × machine.Response) → Counter D P
      → Type 0
  MachineRuns left a steps b =
      (after : List Standing) × Leaves bound b.totals after × Run (machine_of_counter peripherals a
      (part_of bound a.totals left)) steps (machine_of_counter peripherals b (part_of bound b.totals after))

  pub machine_runs : (a b : Counter D P) (steps : List (machine.Request × machine.Response)) (left : List Standing)
      → Leaves bound a.totals left → IsRun bound peripherals a steps b → MachineRuns left a steps b
  machine_runs a b [] left leaves run = subst (λ n. MachineRuns left a [] n) (sym run) (left, leaves, refl)
  machine_runs a b (s ∷ steps) left leaves run =
      let first = run.1.steps left leaves in
      let rest = machine_runs run.0 b steps first.after first.leaves run.2 in (
        rest.0,
        rest.1,
        (
          machine_of_counter peripherals run.0 (part_of bound run.0.totals first.after),
          first.step,
          rest.2,
        ),
      )

  -- what a run does, by what the disk may leave before it: each moment of it is one of a step
  pub runs_from : (a b : Counter D P) (steps : List (machine.Request × machine.Response)) (left : List Standing)
      → ((disk : D) (bytes : List ℕ) → bound.honest disk → (bound.state disk).left_since (bound.state disk).moment bytes
      → MayLeave (bound.state disk) bytes) → Leaves bound a.totals left → IsRun bound peripherals a steps b
      → RunsFrom bound peripherals left a steps b
  runs_from a b [] left only leaves run = search (rules, started)
  runs_from a c (s ∷ steps) left only leaves run =
      let b = run.0 in
      let first = run.1.steps left leaves in
      let rest = runs_from b c steps first.after only first.leaves run.2 in
      let A = machine_of_counter peripherals a (part_of bound a.totals left) in
      let B = machine_of_counter peripherals b (part_of bound b.totals first.after) in
      let C = machine_of_counter peripherals c (part_of bound c.totals rest.after) in
      let P : List ℕ → Type 0 = IsLeftDuring A (s ∷ steps) C (B, first.step, rest.run) in
      record {
        after = rest.after;
        leaves = rest.leaves;
        run = (B, first.step, rest.run);
        any_moment = followed_by (bound.state a.totals.disk) (bound.state b.totals.disk) (bound.state c.totals.disk) P
            (weaker (bound.state a.totals.disk) (bound.state b.totals.disk) (StandsForEither left first.after) P
            (left_beside A B C s steps first.step rest.run) first.any_moment) (weaker (bound.state b.totals.disk)
            (bound.state c.totals.disk) (IsLeftDuring B steps C rest.run) P (λ bytes h. inr h) rest.any_moment);
      }

  -- so is one in which the totals have no part
  pub one_beside : (a b : Counter D P) (q : machine.Request) (r : machine.Response) → OnlyNow bound a.totals.disk
      → IsStepBeside peripherals a q r b → IsRun bound peripherals a ((q, r) ∷ []) b
  one_beside a b q r only beside = one_step a b q r (beside_is_step bound peripherals a b q r only beside)
