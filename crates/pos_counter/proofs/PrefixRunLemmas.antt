-- A crash during a run of the machine or of a counter leaves a prefix of the history.
use Rattle.pos_counter.proofs.Common.{Answer, BeginsOver, Counter, DiskGhosts, Failure, Ghosts, HasBegun, HasRun}
use Rattle.pos_counter.proofs.Common.{HasTooMany, History, IsLeftDuring, IsOneOf, IsPrefixAlong, IsPrefixInside}
use Rattle.pos_counter.proofs.Common.{IsPrefixOf, IsRun, IsStep, KeepsPrefix, KeepsPrefixes, Layout, Leaves}
use Rattle.pos_counter.proofs.Common.{LeavesPrefix, List, Machine, PlainFile, RecoversNothing, Refused, Request}
use Rattle.pos_counter.proofs.Common.{Response, Rises, Run, Standing, Stands, StandsForEither, StandsForOneOf}
use Rattle.pos_counter.proofs.Common.{StandsForSome, StartsWith, Step, TotalsPart, [], ap, arith, begun, event_of}
use Rattle.pos_counter.proofs.Common.{history_along, history_of, history_until, history_with, inl, inr, machine}
use Rattle.pos_counter.proofs.Common.{machine_now, part_of, refl, rules, subst, sym, ℕ, ◌++◌, ◌∷◌, ◌≡◌, ◌⊎◌}
use Rattle.std.proofs.Math.Path.{path_j, subst_refl}
use Rattle.pos_counter.proofs.PrefixLemmas.{Fits, fits_inside, fits_leaves, fits_start}
use Rattle.pos_counter.proofs.RunLemmas.{run_append}
use Rattle.pos_counter.proofs.StepLemmas.{step_fits}
use Rattle.pos_disk.proofs.MomentLemmas.{rest_leaves}

-- where a history fits, it goes on fitting along a run
pub run_fits : (history : History) (old : Machine) (steps : List (Request × Response)) (new : Machine)
    (run : Run old steps new) → Fits history old.totals → Fits (history_along history old steps new run) new.totals
run_fits history old [] new run fits = subst (λ (m : Machine). Fits history m.totals) (sym run) fits
run_fits history old (s ∷ steps) new run fits =
    run_fits (history_with history old s.0 s.1 run.0) run.0 steps new run.2 (step_fits old s.0 s.1 run.0 fits run.1)

-- bytes that stand for one of the standings
pub some_left : (P : Standing → Type 0) (left : List Standing) {bytes : List ℕ}
    → ((standing : Standing) → IsOneOf left standing → P standing) → StandsForOneOf left bytes → StandsForSome P bytes
some_left P [] each is = absurd is
some_left P (standing ∷ left) each (inl is) =
    record { standing = standing; stands = is; has = each standing (inl refl) }
some_left P (standing ∷ left) each (inr is) = some_left P left (λ other one. each other (inr one)) is

-- what bytes that are left stand for is a prefix
pub bytes_after : {history : History} {totals : TotalsPart} {bytes : List ℕ} → Fits history totals
    → StandsForOneOf totals.left bytes → StandsForSome (IsPrefixOf history) bytes
bytes_after {history} {totals} fits is = some_left (IsPrefixOf history) totals.left (fits_leaves fits) is

-- each moment of a run lies in one step
pub bytes_along : (history : History) (old : Machine) (steps : List (Request × Response)) (new : Machine)
    (run : Run old steps new) → Fits history old.totals → {bytes : List ℕ} → IsLeftDuring old steps new run bytes
    → StandsForSome (IsPrefixAlong history old steps new run) bytes
bytes_along history old [] new run fits is = bytes_after fits is
bytes_along history old (s ∷ steps) new run fits (inl is) = some_left (IsPrefixAlong history old (s ∷ steps) new run)
    old.totals.left (λ standing one. inl (inl (fits_leaves fits standing one))) is
bytes_along history old (s ∷ steps) new run fits (inr is) =
    let next = history_with history old s.0 s.1 run.0 in
    let later = bytes_along next run.0 steps new run.2 (step_fits old s.0 s.1 run.0 fits run.1) is in
    record { standing = later.standing; stands = later.stands; has = inr later.has }

-- what bytes that are left before a step or after it stand for
pub bytes_inside : {history : History} (old : Machine) (q : Request) (r : Response) (new : Machine) {bytes : List ℕ}
    → Fits history old.totals → Step old q r new → StandsForEither old.totals.left new.totals.left bytes
    → StandsForSome (IsPrefixInside history (history_with history old q r new)) bytes
bytes_inside {history} old q r new fits step h =
    let inside = fits_inside history (event_of old q r new) fits (step_fits old q r new fits step) in
    elim h [
      | inl x ↦ some_left (IsPrefixInside history (history_with history old q r new)) old.totals.left
          (λ standing one. inside standing (inl one)) x
      | inr x ↦ some_left (IsPrefixInside history (history_with history old q r new)) new.totals.left
          (λ standing one. inside standing (inr one)) x
    ]

-- ---- the law

module _ (layout : Layout) (start : List PlainFile) (sequence : ℕ) (first last : Machine) (steps : List
    (Request × Response)) (run : Run first steps last) (is : StartsWith layout start sequence first.totals) where
  pub fits_last : Fits (history_of layout start first steps last run) last.totals
  fits_last = run_fits (begun layout start) first steps last run (fits_start refl is)

  -- after the run
  pub law_after : LeavesPrefix (history_of layout start first steps last run) last.totals
  law_after = fits_leaves fits_last

  -- what a recovery answers that recovers nothing
  pub law_recovers : (result : Answer) (new : TotalsPart) → RecoversNothing last.totals result new
      → (result ≡ Refused Failure 0)
      × (HasTooMany (IsOneOf last.totals.left) last.totals.totals.next ⊎ Rises last.totals.failures new.failures)
  law_recovers result new h = grind (arith, law_after)

-- the history of one run after another
pub history_append : (history : History) (a b c : Machine) (steps more : List (Request × Response))
    (run : Run a steps b) (rest : Run b more c) → history_along history a (steps ++ more) c
    (run_append a b c steps more run rest) ≡ history_along (history_along history a steps b run) b more c rest
unfolding run_append
history_append history a b c [] more run rest = path_j
    (λ m e. history_along history m more c (subst (λ n. Run n more c) e rest) ≡ history_along history b more c rest)
    (ap (λ r. history_along history b more c r) (subst_refl (λ m. Run m more c) rest)) run
history_append history a b c (s ∷ steps) more run rest =
    history_append (history_with history a s.0 s.1 run.0) run.0 b c steps more run.2 rest

-- ---- a counter over a disk

module _ {D P : Type 0} (bound : DiskGhosts D) (peripherals : Ghosts P) (layout : Layout) (start : List PlainFile)
    (sequence : ℕ) where
  -- the disk of a counter that begins leaves these files alone
  begins_leaves : (counter : Counter D P) → BeginsOver bound peripherals layout start sequence counter
      → Leaves bound counter.totals (Stands layout start sequence ∷ [])
  begins_leaves counter is = search (rules, rest_leaves)

  -- it has run through nothing
  pub has_begun : (counter : Counter D P) → BeginsOver bound peripherals layout start sequence counter
      → HasBegun bound peripherals layout start sequence counter
  has_begun counter is = search (rules, begins_leaves)

  -- the history of what a counter has run through fits its totals
  past_fits : (steps : List (Request × Response)) (counter : Counter D P)
      (past : HasRun bound peripherals layout start sequence steps counter)
      → Fits (history_until past) (part_of bound counter.totals past.left)
  past_fits steps counter past = search (rules, run_fits, fits_start)

  -- one more request
  pub keeps_prefix : (steps : List (Request × Response)) (old new : Counter D P)
      (past : HasRun bound peripherals layout start sequence steps old) (q : Request) (r : Response)
      → IsStep bound peripherals old q r new
      → KeepsPrefix bound peripherals layout start sequence steps old past q r new
  keeps_prefix steps old new past q r next =
      let s = next.steps past.left past.leaves in
      let A = machine peripherals past.first (part_of bound past.first.totals (Stands layout start sequence ∷ [])) in
      let B = machine_now past in
      let C = machine peripherals new (part_of bound new.totals s.after) in
      let fits = past_fits steps old past in
      let same = history_append (begun layout start) A B C steps ((q, r) ∷ []) past.run (C, s.step, refl) in
      record {
        next = record {
          first = past.first;
          begins = past.begins;
          left = s.after;
          leaves = s.leaves;
          run = run_append A B C steps ((q, r) ∷ []) past.run (C, s.step, refl);
        };
        step = s.step;
        history = same;
        any_moment = λ bytes left. subst (λ (h : History). StandsForSome (IsPrefixInside (history_until past) h) bytes)
            (sym same) (bytes_inside B q r C fits s.step (s.any_moment.each bytes left));
        now = λ bytes may. subst (λ (h : History). StandsForSome (IsPrefixOf h) bytes) (sym same) (bytes_after
            (run_fits (history_until past) B ((q, r) ∷ []) C (C, s.step, refl) fits) (s.leaves.leaves bytes may));
      }

  -- a list of requests
  pub keeps_prefixes : (steps more : List (Request × Response)) (old new : Counter D P)
      (past : HasRun bound peripherals layout start sequence steps old) (run : IsRun bound peripherals old more new)
      → KeepsPrefixes bound peripherals layout start sequence steps old past more new run
  keeps_prefixes steps [] old new past run = tt
  keeps_prefixes steps (s ∷ more) old new past run =
      let one = keeps_prefix steps old run.0 past s.0 s.1 run.1 in
      (one, keeps_prefixes (steps ++ (s.0, s.1) ∷ []) more run.0 new one.next run.2)
