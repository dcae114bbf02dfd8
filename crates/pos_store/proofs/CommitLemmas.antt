-- What an append or a renewal of the log means for the files.
use Rattle.pos_store.proofs.Common.{Appends, Change, Commits, CountsNow, Err, File, Ghosts, HasNotFailed, HasOldOrNew}
use Rattle.pos_store.proofs.Common.{HoldsFiles, IsDirectory, IsExhausted, IsGroup, IsLast, IsLogReady, IsReady, IsStep}
use Rattle.pos_store.proofs.Common.{KeepsDisk, KeepsRecords, Layout, Layout1, Layout2, LeavesOnly, List, LogView, Ok}
use Rattle.pos_store.proofs.Common.{Renews, Rises, Stands, StandsForEither, StandsForOneOf, [], ap, arith, body_limit}
use Rattle.pos_store.proofs.Common.{false, fits_behind, group_spelling, inl, inr, layout_of, left_by, length, limits_of}
use Rattle.pos_store.proofs.Common.{log_over, longest, outcome_of_all, refl, sequence_after, spelling, tail_after, true}
use Rattle.pos_store.proofs.Common.{view_of, weaker, ℕ, ⊎_elim, ◌+◌, ◌∙◌, ◌∷◌, ◌≡◌, ◌≢◌, ◌≤◌}
use Rattle.pos_store.proofs.DiskFileLemmas.{shows_now, still_holds, holds_more, holds_new, old_or_new_holds}
use Rattle.pos_store.proofs.DiskFileLemmas.{leaves_files, ready_with}
use Rattle.pos_disk.specs.State.{DiskState}
use Rattle.pos_image.proofs.CurrentImageLemmas.{current_chosen}
use Rattle.pos_image.proofs.PlaceLemmas.{places, same_layout as beside_layout}
use Rattle.pos_image.specs.DiskCalls.{Keeps, KeepsBeside}
use Rattle.pos_image.specs.Layout.{log_place, other, slot_size, start}
use Rattle.pos_image.specs.Standing as image
use Rattle.pos_image.specs.declared.slot.Slot.{Slot}
use Rattle.pos_log.specs.declared.fault.LogFault.{LogFault}
use Rattle.std.proofs.Common.{Result}
use Rattle.pos_store.specs.Commits.{WritesIn}
use Rattle.pos_store.specs.declared.fault.StoreFault.TheVariants as fault
use Rattle.pos_store.specs.declared.medium.StoreMedium.TheVariants as which

-- the same images over another disk are of the same layout
pub same_layout : {D : Type 0} (log : LogView D) {new : LogView D} {disk : D} {tail : ℕ}
    → new ≡ log_over (record log.images { disk = disk }) tail → layout_of new.images.slot ≡ layout_of log.images.slot
same_layout {D} log same = ap (λ (l : LogView D). layout_of l.images.slot) same

-- A group that is applicable, over a log that is ready with the files before it.
pub record IsGiven {D : Type 0} (bound : Ghosts D) (log : LogView D) (files after : List File)
    (changes : List Change) : Type 0 where
  pub ready : IsLogReady bound log
  pub holds : bound.honest log.images.disk
      → HoldsFiles (layout_of log.images.slot) files log.images.sequence (bound.state log.images.disk).reading
  pub group : IsGroup changes
  pub some : changes ≢ []
  pub outcome : outcome_of_all (limits_of (layout_of log.images.slot)) files changes ≡ Ok after

-- the spelling of a directory is no longer than the longest body of the layout
pub short : (layout : Layout) (body : List ℕ) → length body ≤ body_limit (limits_of layout)
    → length body ≤ longest layout
short Layout1 body fits = omega (arith, fits)
short Layout2 body fits = omega (arith, fits)

-- an image beside the current one was put into the other slot
in_slot : (slot : Slot) {n : ℕ} {old new : DiskState} → n ≤ longest (layout_of slot)
    → KeepsBeside (other slot) n old new → Keeps (start (other slot)) (slot_size (layout_of slot)) old new
in_slot slot {n} fits beside =
    let here = places slot in
    let same = beside_layout slot in
    record {
      same_length = beside.same_length;
      elsewhere = λ i outside. beside.elsewhere i (λ hit. ⊎_elim (λ inside. outside (omega arith))
          (λ gate. let at : i ≡ start (other slot) + log_place (layout_of slot) = rw same at gate in
          outside (omega arith)) hit);
    }

module _ {D : Type 0} {bound : Ghosts D} {log : LogView D} {files after : List File} {changes : List Change}
    (given : IsGiven bound log files after changes) where
  -- the layout of the disk before it
  abbrev layout : Layout
  layout = layout_of log.images.slot

  step : IsStep (limits_of layout) files (group_spelling changes) after
  step = record { changes = changes; group = given.group; some = given.some; spelled = refl; outcome = given.outcome }

  shows : bound.honest log.images.disk
      → image.ShowsImage layout log.images.body log.images.sequence (bound.state log.images.disk).reading
  shows honest = shows_now bound given.ready.images honest

  -- the slot of the current image
  slot_is : bound.honest log.images.disk → image.current_on (bound.state log.images.disk).reading ≡ log.images.slot
  slot_is honest = (current_chosen (given.ready.images.sound honest).current).place

  -- nothing was written but the record of the group, or else the slot of a new image
  abbrev WritesGroup : D → Type 0
  WritesGroup new = bound.honest log.images.disk → WritesIn (image.current_on (bound.state log.images.disk).reading)
      layout log.tail changes (bound.state log.images.disk) (bound.state new)

  pub wrote_record : {result : Result (Unit {0}) LogFault} {new : LogView D}
      → fits_behind layout log.tail changes ≡ true → Appends bound log (group_spelling changes) result new
      → WritesGroup new.images.disk
  wrote_record fits appends honest = rw (fits, slot_is honest) (appends.rest honest)

  pub wrote_image : {new : D} {n : ℕ} → fits_behind layout log.tail changes ≡ false → n ≤ longest layout
      → (bound.honest log.images.disk
      → KeepsBeside (other log.images.slot) n (bound.state log.images.disk) (bound.state new)) → WritesGroup new
  wrote_image over short beside honest = rw (over, slot_is honest) (in_slot log.images.slot short (beside honest))

  -- bytes that stand for the files before it, or for those after it
  abbrev Around : ℕ → List ℕ → Type 0
  Around then_sequence = StandsForEither (Stands layout files log.images.sequence ∷ [])
      (Stands layout after then_sequence ∷ [])

  -- they are among what a commit in which the disk fails may leave
  among : (then_sequence : ℕ) → sequence_after layout log.tail changes log.images.sequence ≡ then_sequence
      → (c : List ℕ) → Around then_sequence c
      → StandsForOneOf (left_by layout files log.images.sequence log.tail changes) c
  among then_sequence is c either = rw (is, given.outcome)
      (⊎_elim (λ old. ⊎_elim (λ this. inl this) (λ none. absurd none) old) (λ new. inr new) either)

  -- the old records, with the new one or without
  pub appending_stands : bound.honest log.images.disk → (c : List ℕ)
      → KeepsRecords layout log.images.body log.images.sequence (image.log_of (bound.state log.images.disk).reading)
      (group_spelling changes) c → Around log.images.sequence c
  appending_stands honest c keeps =
      let holds = given.holds honest in
      grind (arith, still_holds holds (shows honest) c, holds_more holds (shows honest) c step, keeps.log holds.texts)

  -- the old image with its records, or the new one with none
  pub renewing_stands : (body : List ℕ) → IsDirectory (limits_of layout) after → body ≡ spelling after
      → bound.honest log.images.disk → (c : List ℕ) → HasOldOrNew log.images
      (image.log_of (bound.state log.images.disk).reading) layout body (log.images.sequence + 1) c
      → Around (log.images.sequence + 1) c
  renewing_stands body sound spelled honest c either = grind (arith, old_or_new_holds, shows)

  -- a commit that met a fault of the disk
  pub failed_commits : (failed : D) (now : Layout) (then_sequence : ℕ) → now ≡ layout
      → sequence_after layout log.tail changes log.images.sequence ≡ then_sequence
      → (IsExhausted layout log.tail changes log.images.sequence → ⊥) → (bound.honest log.images.disk
      → LeavesOnly (bound.state log.images.disk) (bound.state failed) (Around then_sequence))
      → (bound.honest log.images.disk → (bytes : List ℕ)
      → CountsNow (bound.state failed) (bound.state log.images.disk).moment bytes)
      → (bound.honest log.images.disk → Rises (bound.state log.images.disk).failures (bound.state failed).failures)
      → WritesGroup failed → KeepsDisk bound log.images.disk failed
      → Commits bound (ready_with log files) changes (Err fault.Device) (view_of (which.Off failed now))
  failed_commits failed now then_sequence kept is more any_moment counts device rest keeps = record {
    answer = rw given.outcome (more, refl);
    layout = kept;
    unchanged = λ err. inl refl;
    crash = λ h. record {
      any_moment = weaker (bound.state log.images.disk) (bound.state failed) _ _
          (λ c either. inr (among then_sequence is c either)) (any_moment h);
      now = λ bytes may. among then_sequence is bytes
          ((any_moment h).each bytes (counts h bytes (any_moment h).later may));
    };
    device = λ h is. device h;
    counts = λ h. inl refl;
    rest = rest;
    keeps = keeps;
  }

  module _ (new : LogView D) where
    -- the disk of the log holds the files after the group
    abbrev HasAfter : Type 0
    HasAfter = bound.honest new.images.disk
        → HoldsFiles (layout_of new.images.slot) after new.images.sequence (bound.state new.images.disk).reading

    -- a commit that put the group down
    put_commits : (then_sequence : ℕ) → layout_of new.images.slot ≡ layout
        → sequence_after layout log.tail changes log.images.sequence ≡ then_sequence
        → new.images.sequence ≡ then_sequence → new.tail ≡ tail_after layout log.tail changes
        → (IsExhausted layout log.tail changes log.images.sequence → ⊥) → IsReady bound new.images → HasAfter
        → (bound.honest log.images.disk
        → LeavesOnly (bound.state log.images.disk) (bound.state new.images.disk) (Around then_sequence))
        → (bound.honest log.images.disk → HasNotFailed (bound.state log.images.disk) (bound.state new.images.disk))
        → WritesGroup new.images.disk → KeepsDisk bound log.images.disk new.images.disk
        → Commits bound (ready_with log files) changes (Ok tt) (ready_with new after)
    put_commits then_sequence kept is same tail more ready holds any_moment counts rest keeps =
        grind (arith, kept, leaves_files)

    module _ (fits : fits_behind layout log.tail changes ≡ true)
        (appends : Appends bound log (group_spelling changes) (Ok tt) new) where
      same_sequence : new.images.sequence ≡ log.images.sequence
      same_sequence = ap (λ (l : LogView D). l.images.sequence) appends.appended

      kept : layout_of new.images.slot ≡ layout
      kept = same_layout log appends.appended

      -- a group that was appended
      pub appended_holds : HasAfter
      appended_holds honest =
          let was = appends.keeps.honest.1 honest in
          let holds = given.holds was in
          let body_is = ap (λ (l : LogView D). l.images.body) appends.appended in
          rw (kept, same_sequence) (holds_more holds (shows was) (bound.state new.images.disk).reading step
          (shows_now bound appends.ready.images honest ∙ (λ i. image.OneImage (kept i) (body_is i) (same_sequence i)))
          (appends.records was holds.texts holds.log))

      pub appended_commits : Commits bound (ready_with log files) changes (Ok tt) (ready_with new after)
      appended_commits =
          let moments =
          λ (h : bound.honest log.images.disk). weaker _ _ _ _ (appending_stands h) (appends.any_moment h) in
          let rest = wrote_record fits appends in
          put_commits log.images.sequence kept (rw fits refl) same_sequence
          (rw fits (ap (λ (l : LogView D). l.tail) appends.appended)) (λ exhausted. let over = exhausted.0 in cc)
          appends.ready.images appended_holds moments
          (λ h. ⊎_elim (λ is. absurd cc) (λ same. same) (appends.counts h)) rest appends.keeps

    module _ (over : fits_behind layout log.tail changes ≡ false) (body : List ℕ)
        (sound : IsDirectory (limits_of layout) after) (spelled : body ≡ spelling after)
        (renews : Renews bound log layout body (log.images.sequence + 1) (Ok tt) new) where
      -- a group for which the image was renewed
      pub renewed_holds : HasAfter
      renewed_holds honest = grind (arith, holds_new)

      pub renewed_commits : ¬ (IsLast log.images.sequence) → WritesGroup new.images.disk
          → Commits bound (ready_with log files) changes (Ok tt) (ready_with new after)
      renewed_commits more rest =
          let moments = λ (h : bound.honest log.images.disk). weaker _ _ _ _ (renewing_stands body sound spelled h)
          (renews.any_moment h) in
          put_commits (log.images.sequence + 1) renews.layout_is (rw over refl) renews.sequence_is
          (rw over renews.tail_is) (λ exhausted. more exhausted.1) renews.ready.images renewed_holds moments
          (λ h. ⊎_elim (λ is. absurd cc) (λ same. same) (renews.counts h)) rest renews.keeps
