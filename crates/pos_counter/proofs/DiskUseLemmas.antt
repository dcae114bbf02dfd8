-- Requests that spare the disk are steps whatever the disk is.
use Rattle.pos_counter.proofs.Common.{ChangesTotalsAlone, Counter, DiskGhosts, Ghosts, IsRun, IsSettled, List, Machine}
use Rattle.pos_counter.proofs.Common.{Request, Response, RunsAnyhow, Spared, Standing, Step, StepSparing, TotalsPart}
use Rattle.pos_counter.proofs.Common.{[], arith, inl, inr, machine_of_counter, part_with, rules, settled, subst, sym, ℕ}
use Rattle.pos_counter.proofs.Common.{◌∙◌, ◌∷◌, ⊎_elim}
use Rattle.pos_counter.proofs.CrashLemmas.{settled_twice}
use Rattle.pos_counter.proofs.LiftLemmas.{match_weaker}

-- what changes the totals alone does so whatever is had of their disk
alone_over : (old : Machine) (q : Request) (new : Machine) (part : TotalsPart) → ChangesTotalsAlone old q new
    → ChangesTotalsAlone old q (record new { totals = part })
alone_over old q new part alone = grind (arith, match_weaker)

-- a run of a counter is one of the machine as far as its requests spare the disk
pub runs_anyhow : {D P : Type 0} (bound : DiskGhosts D) (peripherals : Ghosts P) (failures : ℕ) (a c : Counter D P)
    (steps : List (Request × Response)) (left : List Standing) → IsSettled a.totals.totals left
    → IsRun bound peripherals a steps c → RunsAnyhow peripherals left failures a steps c
runs_anyhow bound peripherals failures a c [] left is run = search rules
runs_anyhow bound peripherals failures a c (s ∷ steps) left is run =
    let b = run.0 in
    let now = b.totals.totals in
    let next = settled now.layout now.mode left in
    let rest = runs_anyhow bound peripherals failures b c steps next (settled_twice now.layout left now.mode) run.2 in
    let A = machine_of_counter peripherals a (part_with a.totals.totals left failures) in
    let B = machine_of_counter peripherals b (part_with now next failures) in
    let as_step = λ (spared : Spared left failures (machine_of_counter peripherals a) a.totals s.0 s.1
    (machine_of_counter peripherals b) b.totals). subst (λ l. Step A s.0 s.1
    (machine_of_counter peripherals b (part_with now l failures))) (spared.is_settled is) (spared.step is) in
    let first : StepSparing A s.0 s.1 B = (
      λ spares. as_step (run.1.spared left failures spares),
      ⊎_elim (λ spared. inl (as_step spared)) (λ alone. inr (alone_over A s.0 (machine_of_counter peripherals b
          (part_with now left failures)) (part_with now next failures) alone)) (run.1.otherwise left failures),
    ) in
    record {
      after = rest.after;
      is_settled = rest.is_settled;
      run = (B, first, rest.run);
      spared = λ all.
          let spared = run.1.spared left failures all.0 in
          let later = rest.spared all.1 in
          (later.0 ∙ spared.disk, later.1 ∙ sym (spared.is_settled is));
    }
