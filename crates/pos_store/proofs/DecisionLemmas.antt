-- Bytes always stand for something: what it is is found by reading them.
use Rattle.pos_store.proofs.Common.{AllByRecursion, Applies, Bool, Change, Damaged, DirectoryFault, Err, File, IsBytes}
use Rattle.pos_store.proofs.Common.{IsBytes-drop, IsBytes-take, IsGroup, IsStep, Layout, Limits, List, None, Ok, Option}
use Rattle.pos_store.proofs.Common.{Result, Some, Standing, Stands, StandsFor, Unformatted, [], ap, arith, cond}
use Rattle.pos_store.proofs.Common.{directory_at, directory_takes, drop, drop_at, group_at, group_spelling, group_takes}
use Rattle.pos_store.proofs.Common.{image_length, inl, inr, layout_of, length, limits_of, log_place, log_size, log_some}
use Rattle.pos_store.proofs.Common.{no_body, no_group, one_group_spelling, outcome_of_all, records_or_none, refl}
use Rattle.pos_store.proofs.Common.{sequence_at, start, subst, sym, take_at, ℕ, ⊎_elim, ◌++◌, ◌+◌, ◌∙◌, ◌∷◌, ◌≡◌, ◌⊎◌}
use Rattle.pos_image.specs.Layout.{body_at}
use Rattle.pos_store.proofs.StandingLemmas.{one_step, writable}
use Rattle.pos_store.proofs.RecoveryLemmas.{damaged_stands, no_body_stands, no_log_stands, no_groups_stand}
use Rattle.pos_store.proofs.RecordLemmas.{empty_step}
use Rattle.pos_image.specs.Standing as image
use Rattle.pos_log.specs.Records as log

-- what is shown is the body in the current slot
shown : (none damaged fits : Bool) (by : Layout) {layout : Layout} {there body : List ℕ} (number : ℕ) {sequence : ℕ}
    → cond none image.NoImage
    (cond damaged image.DamagedImage (cond fits (image.OneImage by there number) image.DamagedImage))
    ≡ image.OneImage layout body sequence → there ≡ body
shown none damaged fits by number is = grind arith

body_bytes : (bytes : List ℕ) {layout : Layout} {body : List ℕ} {sequence : ℕ} → IsBytes bytes
    → image.image_on bytes ≡ image.OneImage layout body sequence → IsBytes body
unfolding image.image_on body_at
body_bytes bytes each is =
    let slot = image.current_on bytes in
    subst IsBytes (shown _ _ _ (layout_of slot) (sequence_at bytes (start slot)) is)
    (IsBytes-take _ _ (IsBytes-drop _ bytes each))

-- the bytes of the log, and of each group in it
log_bytes : (bytes : List ℕ) → IsBytes bytes → IsBytes (image.log_of bytes)
unfolding image.log_of
log_bytes bytes each =
    let slot = image.current_on bytes in
    let at = start slot + log_place (layout_of slot) in
    IsBytes-take (log_size (layout_of slot)) (drop at bytes) (IsBytes-drop at bytes each)

spelled_bytes : (groups : List (List ℕ)) → IsBytes (log.spelling groups) → AllByRecursion IsBytes groups
spelled_bytes [] each = tt
spelled_bytes (group ∷ groups) each = (
  subst IsBytes (take_at group (log.spelling groups) (length group) refl) (IsBytes-take (length group)
      (group ++ log.spelling groups) (IsBytes-drop 5 (log.record_spelling group ++ log.spelling groups) each)),
  spelled_bytes groups (subst IsBytes
      (drop_at (log.record_spelling group) (log.spelling groups) (length (log.record_spelling group)) refl)
      (IsBytes-drop (length (log.record_spelling group)) (log.record_spelling group ++ log.spelling groups) each)),
)

text_bytes : (groups : List (List ℕ)) {span : List ℕ} → IsBytes span → log.HoldsRecords groups span
    → AllByRecursion IsBytes groups
text_bytes groups {span} each holds = spelled_bytes groups (rw (← holds.front) (IsBytes-take _ span each))

-- some files are the ones after a text, or none are
abbrev StepOrNone : Limits → List File → List ℕ → Type 0
StepOrNone limits files text =
    ((next : List File) × IsStep limits files text next) ⊎ ((next : List File) → IsStep limits files text next → ⊥)

carried_out : {limits : Limits} (files : List File) {text : List ℕ} (first : Change) (changes : List Change)
    → IsGroup (first ∷ changes) → text ≡ group_spelling (first ∷ changes)
    → (outcome : Result (List File) DirectoryFault) → outcome_of_all limits files (first ∷ changes) ≡ outcome
    → StepOrNone limits files text
carried_out files first changes group spelled (Ok next) is = inl (
  next,
  record {
    changes = first ∷ changes;
    group = group;
    some = (λ none. absurd cc);
    spelled = spelled;
    outcome = is;
  },
)
carried_out {limits} files first changes group spelled (Err cause) is = inr (λ next step.
    let same = one_group_spelling step.changes (first ∷ changes) step.group group (sym step.spelled ∙ spelled) in
    let ok = sym is ∙ ap (outcome_of_all limits files) (sym same) ∙ step.outcome in cc)

step_or_none : (limits : Limits) (files : List File) (text : List ℕ) → IsBytes text → (read : Option (List Change))
    → group_at text ≡ read → StepOrNone limits files text
step_or_none limits files text each None is = inr (λ next step. no_group text step.changes is step.group step.spelled)
step_or_none limits files text each (Some []) is = let takes = group_takes text [] each is in
    inr (empty_step limits files text [] takes.0 takes.1 refl)
step_or_none limits files text each (Some (first ∷ changes)) is =
    let takes = group_takes text (first ∷ changes) each is in
    carried_out files first changes takes.0 takes.1 (outcome_of_all limits files (first ∷ changes)) refl

-- texts lead to some files, or to none
texts_or_none : (limits : Limits) (texts : List (List ℕ)) (files : List File) → AllByRecursion IsBytes texts
    → ((last : List File) × Applies limits files texts last)
    ⊎ ((last : List File) → Applies limits files texts last → ⊥)
texts_or_none limits [] files each = inl (files, refl)
texts_or_none limits (text ∷ texts) files each =
    ⊎_elim (λ step. ⊎_elim (λ more. inl (more.0, (step.0, step.1, more.1))) (λ none.
    inr (λ last applies. none last (rw (one_step limits files text applies.0 step.0 applies.1 step.1) at applies.2)))
    (texts_or_none limits texts step.0 each.1)) (λ none. inr (λ last applies. none applies.0 applies.1))
    (step_or_none limits files text each.0 (group_at text) refl)

module _ (bytes : List ℕ) (each : IsBytes bytes) {layout : Layout} where
  -- an image whose body spells files
  with_base : (base : List File) (body : List ℕ) (sequence : ℕ)
      → image.image_on bytes ≡ image.OneImage layout body sequence → directory_at (limits_of layout) body ≡ Some base
      → (standing : Standing) × StandsFor standing bytes
  with_base base body sequence is read =
      let takes = directory_takes (limits_of layout) body base (body_bytes bytes each is) read in
      ⊎_elim (λ held. ⊎_elim (λ last. (
        Stands layout last.0 sequence,
        record {
          base = base;
          texts = held.0;
          directory = takes.0;
          shows = is ∙ ap (λ (b : List ℕ). image.OneImage layout b sequence) takes.1;
          log = held.1;
          applies = last.1;
        },
      ))
      (λ none. (Damaged, no_groups_stand bytes layout body sequence base held.0 is takes.0 takes.1 held.1 none))
      (texts_or_none (limits_of layout) held.0 base (text_bytes held.0 (log_bytes bytes each) held.1)))
      (λ none. (Damaged, no_log_stands bytes layout body sequence is none))
      (records_or_none (image.log_of bytes) (let long = image_length layout body sequence bytes is
      in let some = log_some layout in
      omega (arith, long, some)))

  with_body : {body : List ℕ} {sequence : ℕ} → image.image_on bytes ≡ image.OneImage layout body sequence
      → (read : Option (List File)) → directory_at (limits_of layout) body ≡ read
      → (standing : Standing) × StandsFor standing bytes
  with_body is None read = grind (arith, no_body_stands, no_body, writable)
  with_body {body} {sequence} is (Some base) read = with_base base body sequence is read

module _ (bytes : List ℕ) (each : IsBytes bytes) where
  with_image : (standing : image.ImageStanding) → image.image_on bytes ≡ standing
      → (standing : Standing) × StandsFor standing bytes
  with_image image.NoImage is = (Unformatted, is)
  with_image image.DamagedImage is = (Damaged, damaged_stands bytes is)
  with_image (image.OneImage layout body sequence) is =
      with_body bytes each is (directory_at (limits_of layout) body) refl

  -- bytes always stand for something
  pub some_standing : (standing : Standing) × StandsFor standing bytes
  some_standing = with_image (image.image_on bytes) refl
