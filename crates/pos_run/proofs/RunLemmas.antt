-- A run over a counter, as a run of the machine from where the counter begins.
use Rattle.pos_run.proofs.Common.{Counter, DiskGhosts, Err, Finishes, FinishesUnflushed, Ghosts, Given, IsRun, Leads}
use Rattle.pos_run.proofs.Common.{List, Machine, Ok, Request, Response, Result, Run, RunFault, RunsOverProfile}
use Rattle.pos_run.proofs.Common.{RunsThrough, ScriptLeaves, Session, Stops, TotalsPart, Writing, ap, begun_session}
use Rattle.pos_run.proofs.Common.{carried_steps, inl, inr, lines_read, machine, machine_runs, new_totals}
use Rattle.pos_run.proofs.Common.{off_over, refl, runs_from, script_steps, simulated_all, simulated_machine, spares_in}
use Rattle.pos_run.proofs.Common.{subst, sym, ℕ, ◌++◌, ◌∙◌, ◌≡◌}
use Rattle.pos_counter.proofs.DiskUseLemmas.{runs_anyhow}
use Rattle.pos_counter.specs.Counters.{IsLeftDuring}
use Rattle.pos_counter.specs.Leaving.{IsSettled, Leaves, part_of, part_with}
use Rattle.pos_counter.specs.Sparing.{RunSparing}
use Rattle.pos_disk.specs.State.{DiskState, LeavesOnly, MayLeave}
use Rattle.pos_profile.specs.Entries.{Contents}
use Rattle.pos_store.specs.Standing.{LeavesOneOf, Standing}
use Rattle.pos_totals.specs.Views.{TotalsView}
use Rattle.pos_run.specs.LineRuns.{RunsWholeScript}
use Rattle.pos_run.specs.Simulations.{IsSimulatedCounter, RunsThroughProfile}
use Rattle.pos_run.specs.Streams.{Streams}
use Rattle.pos_run.specs.Transcript.{Transcript}
use Rattle.pos_run.specs.declared.scripts.RunFault.TheVariants as fault
use Rattle.pos_run.specs.declared.spares.Spares.{Spares}

-- each moment of a run is one of a step, over a disk whose crash now leaves what it says; and over any disk its
-- requests that spare it are steps
pub runs_through : {D P : Type 0} (bound : DiskGhosts D) (peripherals : Ghosts P)
    → ((disk : D) (bytes : List ℕ) → bound.honest disk → (bound.state disk).left_since (bound.state disk).moment bytes
    → MayLeave (bound.state disk) bytes) → (a b : Counter D P) (steps : List (Request × Response))
    → IsRun bound peripherals a steps b → RunsThrough bound peripherals a steps b
runs_through bound peripherals only a b steps run = (
  run,
  (λ left leaves. runs_from bound peripherals a b steps left only leaves run),
  (λ left failures is. runs_anyhow bound peripherals failures a b steps left is run),
)

-- what is said of counters, said of machines that they stand for, by what is left on a disk, with the same steps
module _ {C M L : Type 0} (Runs : Leads C) (Over : Leads M) (Holds : C → L → Type 0) (over : C → L → M)
    (along : (a b : C) (steps : List (Request × Response)) (left : L) → Holds a left → Runs a steps b
    → (after : L) × Holds b after × Over (over a left) steps (over b after)) (a : C) (session : Session) (left : L)
    (holds : Holds a left) where
  -- lines that were carried out
  transcript_over : {b : C} {kept : Session} {lines : List (List ℕ)} {text : List ℕ}
      (t : Transcript Runs a session lines text kept b) → (end : L) × Holds b end
      × (u : Transcript Over (over a left) session lines text kept (over b end)) × (u.steps ≡ t.steps)
  transcript_over t =
      let (end, stands, run) = along _ _ t.steps left holds t.run in
      (end, stands, record { steps = t.steps; run = run; prints = t.prints }, refl)

  finishes_over : {b : C} {kept : Session} {lines : List (List ℕ)} {before after : Given}
      (h : Finishes Runs a session lines before after kept b)
      → (end : L) × Holds b end × (f : Finishes Over (over a left) session lines before after kept (over b end))
      × (f.transcript.steps ≡ h.transcript.steps)
  finishes_over h =
      let (end, stands, t, same) = transcript_over h.transcript in
      (end, stands, record { text = h.text; transcript = t; written = h.written }, same)

  -- and such behind which the sink failed
  unflushed_over : {b : C} {kept : Session} {lines : List (List ℕ)} {before after : Given}
      (h : FinishesUnflushed Runs a session lines before after kept b) → (end : L) × Holds b end
      × (f : FinishesUnflushed Over (over a left) session lines before after kept (over b end))
      × (f.transcript.steps ≡ h.transcript.steps)
  unflushed_over h =
      let (end, stands, t, same) = transcript_over h.transcript in
      (end, stands, record { text = h.text; transcript = t; failed = h.failed }, same)

  -- and such at which a write failed
  stops_over : {b : C} {kept : Session} {lines : List (List ℕ)} {before after : Given}
      (h : Stops Runs a session lines before after kept b)
      → (n : M) × (s : Stops Over (over a left) session lines before after kept n)
      × (s.done.transcript.steps ++ s.failed.carried.steps ≡ h.done.transcript.steps ++ h.failed.carried.steps)
  stops_over h =
      let (end, stands, done, same) = finishes_over h.done in
      let carried = h.failed.carried in
      let (last, there, run) = along _ _ carried.steps end stands carried.run in (
        over _ last,
        record {
          earlier = h.earlier;
          line = h.line;
          later = h.later;
          given = h.given;
          between = h.between;
          mid = over _ end;
          split = h.split;
          done = done;
          failed = record {
            reply = h.failed.reply;
            carried = record { steps = carried.steps; run = run; becomes = carried.becomes };
            cut = h.failed.cut;
          };
        },
        rw same refl,
      )

  -- what a run leaves
  leaves_over : (b : C) (kept : Session) (lines : List (List ℕ)) (before after : Writing)
      (result : Result (Unit {0}) RunFault) (h : ScriptLeaves Runs a session lines before after result kept b)
      → (n : M) × (s : ScriptLeaves Over (over a left) session lines before after result kept n)
      × (carried_steps Over (over a left) session lines before after result kept n s
      ≡ carried_steps Runs a session lines before after result kept b h)
  leaves_over b kept lines before after (Ok u) (done, flushed) = let o = finishes_over done in (_, (o.2, flushed), o.3)
  leaves_over b kept lines before after (Err fault.Read) (done, flushed) = let o = finishes_over done in
      (_, (o.2, flushed), o.3)
  leaves_over b kept lines before after (Err fault.Write) (inl stops) = let o = stops_over stops in (o.0, inl o.1, o.2)
  leaves_over b kept lines before after (Err fault.Write) (inr done) = let o = unflushed_over done in (_, inr o.2, o.3)
  leaves_over b kept lines before after (Err fault.NoMemory) h = (_, (refl, h.1, h.2), refl)

-- a run from this machine by these steps is one from an equal one by equal ones, with the same moments
moved : {D : Type 0} (state : D → DiskState) {d e : D} {after : DiskState} (end : Machine) {m n : Machine}
    {s t : List (Request × Response)} → d ≡ e → m ≡ n → s ≡ t → (run : Run m s end)
    → LeavesOnly (state d) after (IsLeftDuring m s end run)
    → (again : Run n t end) × LeavesOnly (state e) after (IsLeftDuring n t end again)
moved {D} state {d} {after} end {m} {n} {t} here same steps run any_moment =
    let P : D → Machine → List (Request × Response) → Type 0 =
    λ x y z. (r : Run y z end) × LeavesOnly (state x) after (IsLeftDuring y z end r) in
    subst (λ x. P x n t) here (subst (λ y. P d y t) same (subst (λ z. P d m z) steps (run, any_moment)))

-- a run over a counter whose devices are served is one over its profile, with the same steps
module _ {D P : Type 0} (bound : DiskGhosts D) (peripherals : Ghosts P) {contents : Contents} {disk : D}
    {counter new : Counter D P} {spares : Spares P} (made : IsSimulatedCounter peripherals contents disk counter spares)
    {streams : Streams} {result : Result (Unit {0}) RunFault} {kept : Session}
    (carried : RunsWholeScript bound peripherals counter
    (begun_session (spares_in peripherals spares)) streams result kept new) (left : List Standing) where
  abbrev lines : List (List ℕ)
  lines = lines_read streams.reader_after.state carried.script.input

  over_profile : (Over : Leads Machine) (Holds : TotalsView D → List Standing → Type 0) (part : TotalsView D
      → List Standing → TotalsPart) → ((a b : Counter D P) (steps : List (Request × Response)) (left : List Standing)
      → Holds a.totals left → IsRun bound peripherals a steps b → (after : List Standing) × Holds b.totals after
      × Over (machine peripherals a (part a.totals left)) steps (machine peripherals b (part b.totals after)))
      → Holds (off_over disk) left → let begins = simulated_machine contents.devices (part (off_over disk) left) in
      let session = begun_session (simulated_all contents.spares) in
      (n : Machine) × (s : ScriptLeaves Over begins session lines streams.writer streams.writer_after result kept n)
      × (carried_steps Over begins session lines streams.writer streams.writer_after result kept n s
      ≡ script_steps carried.script)
  over_profile Over Holds part along holds = rw (← made.served (part (off_over disk) left), ← made.totals, ← made.left)
      (leaves_over (IsRun bound peripherals) Over (λ c left. Holds c.totals left) (λ c left. machine peripherals c
      (part c.totals left)) along counter (begun_session (spares_in peripherals spares)) left
      (rw made.totals holds) new kept lines streams.writer streams.writer_after result carried.script.run)

  -- over an honest disk, for all that it may leave
  pub runs_honestly : bound.honest disk → LeavesOneOf left (bound.state disk) → RunsThroughProfile contents left
      (bound.state disk) (bound.state new.totals.disk) streams result × bound.honest new.totals.disk
  runs_honestly honest leaves =
      let holds : Leaves bound (off_over disk) left = record { honest = honest; leaves = leaves; is_settled = refl } in
      let script = carried.script in
      let ran = carried.through.1 left (rw made.totals holds) in
      let (n, said, same) = over_profile Run (Leaves bound) (part_of bound) (machine_runs bound peripherals) holds in
      let end = machine peripherals new (part_of bound new.totals ran.after) in
      let begins = ap (λ (t : TotalsView D). machine peripherals counter (part_of bound t left)) made.totals
      ∙ made.served (part_of bound (off_over disk) left) in
      let (run, any_moment) = moved bound.state end (ap (λ (t : TotalsView D). t.disk) made.totals) begins
      (sym same) ran.run ran.any_moment in (
        record {
          text = record {
            end = n;
            left = kept;
            run = record { input = script.input; reader = script.reader; run = said };
          };
          end = end;
          run = run;
          any_moment = any_moment;
          leaves = ran.leaves.leaves;
        },
        ran.leaves.honest,
      )

  -- over any disk
  pub runs_over_any : (failures : ℕ) → RunsOverProfile RunSparing contents (new_totals left failures) streams result
  runs_over_any failures =
      let (n, said, same) = over_profile RunSparing (λ view left. IsSettled view.totals left)
      (λ view left. part_with view.totals left failures)
      (λ a b steps left is run. let ran = runs_anyhow bound peripherals failures a b steps left is run in
      (ran.after, ran.is_settled, ran.run)) refl in
      record {
        end = n;
        left = kept;
        run = record { input = carried.script.input; reader = carried.script.reader; run = said };
      }
