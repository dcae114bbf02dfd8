use Rattle.pos_store.proofs.Common.{Applies, Decodes, DiskStandsFor, EndsAt, Err, File, Global, HasNotFailed}
use Rattle.pos_store.proofs.Common.{HoldsFiles, HoldsRecords, IsBody, IsDirectory, KeepsDisk, Layout, Limits, List, Vec}
use Rattle.pos_store.proofs.Common.{View, Watches, ap, inl, inr, layout_of, limits_of, map, refl, spelling, subst, sym}
use Rattle.pos_store.proofs.Common.{watches_on, ℕ, ⊎_elim, ◌∙◌, ◌≡◌}
use Rattle.pos_store.proofs.DiskFileLemmas.{leaves_files}
use Rattle.pos_store.proofs.RecoveryLemmas.{off_recovers, refused_recovers, told_finds, told_alone, told_log_finds}
use Rattle.pos_store.proofs.RecoveryLemmas.{told_log_alone, told_text_finds, never_failed, both_keep, later, not_device}
use Rattle.pos_store.proofs.RecoveryLemmas.{damaged_stands, no_body_stands, no_log_stands, no_groups_stand}
use Rattle.pos_store.proofs.RecoveryLemmas.{malformed_none, ready_recovers}
use Rattle.pos_store.proofs.recoveries.recover_files.Given.{Over}
use Rattle.pos_store.proofs.recoveries.recover_files.Goals.{After-apply_texts}
use Rattle.pos_image.specs.Standing as image
use Rattle.pos_image.specs.declared.fault.ImageFault.TheVariants as images
use Rattle.pos_log.specs.declared.fault.LogFault.TheVariants as logs
use Rattle.pos_store.proofs.recoveries.recover_files.Goals as goal

pub returns-in-Ready-clause-recovers : goal.returns-in-Ready-clause-recovers
returns-in-Ready-clause-recovers g c =
    let sound = rw c.in-Ready.is at c.requires.sound in
    rw c.in-Ready.is (ready_recovers g.D.Disk c.in-Ready.log c.in-Ready.directory.files
    (g.met.D.Disk.only_now c.in-Ready.log.images.disk) sound.0 sound.1)

pub returns-in-Err-clause-recovers : goal.returns-in-Err-clause-recovers
returns-in-Err-clause-recovers g c =
    let opened = c.in-Err.ensures in
    let told = told_alone c.fault_of_images.ensures in
    rw c.in-Off.is (off_recovers g.D.Disk c.in-Off.disk c.in-Off.layout _ _
    (told_finds (DiskStandsFor g.D.Disk c.in-Off.disk) c.in-Off.layout c.fault_of_images.result
    c.fault_of_images.ensures
    (λ is h. opened.unformatted h is) (λ is h. damaged_stands _ (opened.damaged h is)) opened.faults)
    (λ err. refl) opened.any_moment
    (λ h. tt)
    (λ h. tt)
    (λ h is. opened.device h (told.0 is))
    (λ h. ⊎_elim (λ is. inl (told.1 (cc is))) (λ same. inr same) (opened.counts h)) opened.keeps)

pub returns-in-Err-Malformed-clause-recovers : goal.returns-in-Err-Malformed-clause-recovers
returns-in-Err-Malformed-clause-recovers g c =
    let opened = c.in-Ok.ensures in
    rw (c.in-Off.is, c.into_disk.ensures) (refused_recovers _ (λ is. absurd cc) (
      λ h. no_body_stands _ (layout_of c.in-Ok.images.slot) c.in-Ok.images.body c.in-Ok.images.sequence (opened.found h)
          (λ spelled. malformed_none c.in-Err-Malformed.field-0-is
          (subst (λ (l : Limits). Decodes l c.body.result.now (Err c.in-Err-Malformed.field-0))
          (c.limits_of-limits.ensures ∙ ap limits_of c.layout.ensures) c.in-Err-Malformed.ensures)
          (subst (IsBody (limits_of (layout_of c.in-Ok.images.slot))) (sym c.body.ensures) spelled)),
      refl,
    ) opened.any_moment (λ h. never_failed _ _ _ images.Device (opened.counts h)) opened.keeps)

pub returns-in-Err-decode-clause-recovers : goal.returns-in-Err-decode-clause-recovers
returns-in-Err-decode-clause-recovers g c =
    let opened = c.in-Ok.ensures in
    rw (c.in-Off.is, c.into_disk-in-Err-decode.ensures) (refused_recovers _ (λ is. absurd cc) refl opened.any_moment
    (λ h. never_failed _ _ _ images.Device (opened.counts h)) opened.keeps)

pub returns-in-Err-open-clause-recovers : goal.returns-in-Err-open-clause-recovers
returns-in-Err-open-clause-recovers g c =
    let opened = c.in-Ok.ensures in
    let logged = c.in-Err-open.ensures in
    let told = told_log_alone c.fault_of_log.ensures in
    rw (c.in-Off.is, c.into_disk-in-Err-open.ensures) (off_recovers g.D.Disk c.in-Off.disk c.in-Off.layout _ _
    (told_log_finds (DiskStandsFor g.D.Disk c.in-Off.disk) c.in-Off.layout c.fault_of_log.result c.fault_of_log.ensures
    (λ is h. no_log_stands _ (layout_of c.in-Ok.images.slot) c.in-Ok.images.body c.in-Ok.images.sequence
    (opened.found h) (rw (opened.any_moment h).reading at (logged.damaged (opened.keeps.honest.0 h) is))))
    (λ err. refl)
    (λ h. watches_on _ _ _ (opened.any_moment h) (logged.any_moment (opened.keeps.honest.0 h)))
    (λ h. tt)
    (λ h. tt)
    (λ h is. later opened.keeps logged.keeps h (logged.device (opened.keeps.honest.0 h) (told.0 is)))
    (λ h. ⊎_elim (λ is. inl (told.1 (cc is))) (λ same. inr (same ∙ never_failed _ _ _ images.Device (opened.counts h)))
    (logged.counts (opened.keeps.honest.0 h))) (both_keep g.D.Disk _ _ _ opened.keeps logged.keeps))

module _ (g : Over) (c : After-apply_texts g) where
  -- the layout of the disk, and its limits
  abbrev layout : Layout
  layout = layout_of c.in-Ok.images.slot

  limits : c.in-Ok-decode.directory.limits ≡ limits_of layout
  limits = c.in-Ok-decode.ensures.0 ∙ c.limits_of-limits.ensures ∙ ap limits_of c.layout.ensures

  sound : IsDirectory (limits_of layout) c.in-Ok-decode.directory.files
  sound = rw (c.limits_of-limits.ensures, c.layout.ensures) at c.in-Ok-decode.ensures.1

  spelled : c.in-Ok.images.body ≡ spelling c.in-Ok-decode.directory.files
  spelled = sym c.body.ensures ∙ c.in-Ok-decode.ensures.2

  records : g.D.Disk.honest c.in-Off.disk → HoldsRecords (map (λ (t : Vec ℕ Global). t.items) c.in-Ok-open.texts.items)
      (image.log_of (g.D.Disk.state c.in-Off.disk).reading)
  records h =
      rw (c.in-Ok.ensures.any_moment h).reading at (c.in-Ok-open.ensures.records (c.in-Ok.ensures.keeps.honest.0 h))

  watches : g.D.Disk.honest c.in-Off.disk
      → Watches (g.D.Disk.state c.in-Off.disk) (g.D.Disk.state c.in-Ok-open.log.images.disk)
  watches h = watches_on _ _ _ (c.in-Ok.ensures.any_moment h)
      (c.in-Ok-open.ensures.any_moment (c.in-Ok.ensures.keeps.honest.0 h))

  not_failed : g.D.Disk.honest c.in-Off.disk
      → HasNotFailed (g.D.Disk.state c.in-Off.disk) (g.D.Disk.state c.in-Ok-open.log.images.disk)
  not_failed h = never_failed _ _ _ logs.Device (c.in-Ok-open.ensures.counts (c.in-Ok.ensures.keeps.honest.0 h))
      ∙ never_failed _ _ _ images.Device (c.in-Ok.ensures.counts h)

  keeps : KeepsDisk g.D.Disk c.in-Off.disk c.in-Ok-open.log.images.disk
  keeps = both_keep g.D.Disk _ _ _ c.in-Ok.ensures.keeps c.in-Ok-open.ensures.keeps

  layout_is : layout_of c.in-Ok-open.log.images.slot ≡ layout
  layout_is = ap (λ (im : View g.row.D.Denot). layout_of im.slot) c.in-Ok-open.ensures.same

  -- the files that the disk holds
  module _ (files : List File) (applies : Applies c.in-Ok-decode.directory.limits c.in-Ok-decode.directory.files
      (map (λ (t : Vec ℕ Global). t.items) c.deref.result.now) files) where
    found : g.D.Disk.honest c.in-Off.disk → HoldsFiles (layout_of c.in-Ok-open.log.images.slot) files
        c.in-Ok-open.log.images.sequence (g.D.Disk.state c.in-Off.disk).reading
    found h = rw c.in-Ok-open.ensures.same record {
      base = c.in-Ok-decode.directory.files;
      texts = map (λ (t : Vec ℕ Global). t.items) c.in-Ok-open.texts.items;
      directory = sound;
      shows = c.in-Ok.ensures.found h ∙ ap (λ (b : List ℕ). image.OneImage layout b c.in-Ok.images.sequence) spelled;
      log = records h;
      applies = rw (limits, c.deref.ensures.value) at applies;
    }

    found_now : g.D.Disk.honest c.in-Ok-open.log.images.disk → HoldsFiles (layout_of c.in-Ok-open.log.images.slot) files
        c.in-Ok-open.log.images.sequence (g.D.Disk.state c.in-Ok-open.log.images.disk).reading
    found_now h =
        let was = keeps.honest.1 h in
        rw (watches was).reading (found was)

  ends : g.D.Disk.honest c.in-Off.disk
      → EndsAt (layout_of c.in-Ok-open.log.images.slot) c.in-Ok-open.log.tail (g.D.Disk.state c.in-Off.disk).reading
  ends h = rw (watches h).reading at (c.in-Ok-open.ensures.ready.records (keeps.honest.0 h))

pub returns-in-Ok-apply_texts : goal.returns-in-Ok-apply_texts
returns-in-Ok-apply_texts g c =
    let here = (goal.at.returns-in-Ok-apply_texts g c).After-apply_texts in
    let files = c.apply_texts.new.directory.files in
    let now = found_now g here files c.in-Ok-apply_texts.ensures.ok in
    record {
      sound = (
        c.in-Ok-open.ensures.ready,
        now,
        c.apply_texts.ensures.limits ∙ limits g here ∙ ap limits_of (sym (layout_is g here)),
      );
      recovers = rw c.in-Off.is (off_recovers g.D.Disk c.in-Off.disk c.in-Off.layout _ _
          (found g here files c.in-Ok-apply_texts.ensures.ok) (λ err. absurd cc) (watches g here)
          (λ h. leaves_files c.in-Ok-open.ensures.ready.images now ((keeps g here).honest.0 h)) (ends g here)
          (λ h is. absurd cc) (λ h. inr (not_failed g here h)) (keeps g here));
    }

pub returns-in-Err-apply_texts-clause-recovers : goal.returns-in-Err-apply_texts-clause-recovers
returns-in-Err-apply_texts-clause-recovers g c =
    let here = (goal.at.returns-in-Err-apply_texts-clause-recovers g c).After-apply_texts in
    let faults = c.in-Err-apply_texts.ensures.faults in
    rw (c.in-Off.is, c.into_disk-in-Err-apply_texts.ensures, c.into_images.ensures)
    (refused_recovers _ (not_device faults) (told_text_finds (DiskStandsFor g.D.Disk c.in-Off.disk) c.in-Off.layout
    faults
    (λ is h. no_groups_stand _ (layout g here) c.in-Ok.images.body c.in-Ok.images.sequence
    c.in-Ok-decode.directory.files _ (c.in-Ok.ensures.found h) (sound g here) (spelled g here) (records g here h)
    (λ last applies. c.in-Err-apply_texts.ensures.damaged is last (rw (limits g here, c.deref.ensures.value) applies))))
    (watches g here) (not_failed g here) (keeps g here))
