-- What an enabling finds where a crash has left a disk that stands for some files.
use Rattle.pos_counter.proofs.Common.{Answer, Answered, Applies, CallOf, Control, DeviceEnabled, Failure, FindsThem}
use Rattle.pos_counter.proofs.Common.{Group, History, IsOneOf, Layout, Limits, List, Machine, Ok, PlainFile}
use Rattle.pos_counter.proofs.Common.{RecoversNothing, Refused, Request, Response, Rises, Run, SetsByRecovery, Some}
use Rattle.pos_counter.proofs.Common.{Stands, StartsWith, Step, TotalsPart, Truth, [], after_groups, and_from, arith}
use Rattle.pos_counter.proofs.Common.{asks_recovery, begun, enabling, event_of, first_refusal, history_along}
use Rattle.pos_counter.proofs.Common.{history_with, inl, inr, length, limits_of, outcome_of_all, refl, refusals, rules}
use Rattle.pos_counter.proofs.Common.{slice_get, subst, true, ℕ, ◌∙◌, ◌∷◌, ◌≡◌, ◌≤◌}
use Rattle.pos_dir.proofs.ChangeLemmas.{few_after_all}
use Rattle.pos_counter.proofs.LiftLemmas.{match_cases, refused_undone}
use Rattle.pos_counter.proofs.PrefixRunLemmas.{law_after, law_recovers}
use Rattle.pos_counter.proofs.PrefixLemmas.{made_then, same_Ok, same_stands, told_grows}
use Rattle.pos_counter.proofs.StepLemmas.{plain_numbered}

-- ---- an enabling

module _ (layout : Layout) (start : List PlainFile) (sequence : ℕ) (old : Machine)
    (is : StartsWith layout start sequence old.totals) where
  -- what is left is these files
  these : (other : Layout) (files : List PlainFile) (q : ℕ) → IsOneOf old.totals.left (Stands other files q)
      → (other ≡ layout) × (files ≡ start) × (q ≡ sequence)
  these other files q one = search (rules, same_stands)

  module _ (number : ℕ) (control : Control) (asks : asks_recovery control DeviceEnabled (Truth true) ≡ true) where
    -- a recovery finds them, or fails, for a cause
    by_recovery : (result : Answer) (new : Machine)
        → SetsByRecovery old number control DeviceEnabled (Truth true) result new
        → FindsThem layout start sequence old number control (Answered result) new
    by_recovery result new h = grind (arith, these, plain_numbered, law_recovers)

    refused : (refusal : Answer) (new : Machine) → first_refusal (refusals old number control enabling) ≡ Some refusal
        → new ≡ old → FindsThem layout start sequence old number control (Answered refusal) new
    refused refusal new first unchanged = grind (arith, refused_undone)

    pub finds_them : (response : Response) (new : Machine) → slice_get old.controls number ≡ Some control
        → Step old (CallOf number enabling) response new
        → FindsThem layout start sequence old number control response new
    finds_them response new found step = grind (arith, match_cases, by_recovery, and_from, refused)

-- ---- how many files a disk stands for

pub few_applied : (limits : Limits) (base files : List PlainFile) (texts : List (List ℕ)) → length base ≤ limits.files
    → Applies limits base texts files → length files ≤ limits.files
few_applied limits base files [] few is = subst (λ (fs : List PlainFile). length fs ≤ limits.files) is few
few_applied limits base files (text ∷ texts) few is =
    few_applied limits is.0 files texts (few_after_all limits base is.0 is.1.changes few is.1.outcome) is.2

few_groups : (limits : Limits) (files : List PlainFile) {next : List PlainFile} (groups : List Group)
    → length files ≤ limits.files → after_groups limits files groups ≡ Ok next → length next ≤ limits.files
few_groups limits files [] few made = subst (λ (fs : List PlainFile). length fs ≤ limits.files) (same_Ok made) few
few_groups limits files {next} (group ∷ groups) few made =
    let there = made_then (outcome_of_all limits files group) (λ mid. after_groups limits mid groups) next made in
    few_groups limits there.0 groups (few_after_all limits files there.0 group few there.1) there.2

-- a history keeps the layout and the files that it starts with
abbrev HasStart : Layout → List PlainFile → History → Type 0
HasStart layout files history = (history.layout ≡ layout) × (history.start ≡ files)

along_start : (history : History) (old : Machine) (steps : List (Request × Response)) (new : Machine)
    (run : Run old steps new) → HasStart history.layout history.start (history_along history old steps new run)
along_start history old [] new run = (refl, refl)
along_start history old (s ∷ steps) new run =
    let first = told_grows history (event_of old s.0 s.1 run.0) in
    let rest = along_start (history_with history old s.0 s.1 run.0) run.0 steps new run.2 in
    (rest.0 ∙ first.layout, rest.1 ∙ first.start)

-- no layout allows more files than layout 2
few_for_all : (layout : Layout) → (limits_of layout).files ≤ 250
few_for_all layout = grind arith

-- E_FAILURE of a recovery in a counter that has given no handle
module _ (layout : Layout) (start : List PlainFile) (sequence : ℕ) (first last : Machine) (steps : List
    (Request × Response)) (run : Run first steps last) (is : StartsWith layout start sequence first.totals)
    (few : length start ≤ (limits_of layout).files) (next : last.totals.totals.next ≡ 1) where
  few_left : (other : Layout) (files : List PlainFile) (q : ℕ) → IsOneOf last.totals.left (Stands other files q)
      → length files ≤ (limits_of layout).files
  few_left other files q one =
      let prefix = law_after layout start sequence first last steps run is (Stands other files q) one in
      let from = along_start (begun layout start) first steps last run in
      let same = same_stands prefix.stands in
      rw same.1 (few_groups (limits_of layout) start prefix.prefix few (rw (from.0, from.1) at prefix.made))

  pub disk_failed : (result : Answer) (new : TotalsPart) → RecoversNothing last.totals result new
      → (result ≡ Refused Failure 0) × Rises last.totals.failures new.failures
  disk_failed result new h =
      let failed = law_recovers layout start sequence first last steps run is result new h in (
        failed.0,
        elim failed.1 [
          | inl many ↦ absurd (many.handles
              (omega (arith, few_left many.layout many.files many.sequence many.found, few_for_all layout, next)))
          | inr rises ↦ rises
        ],
      )
