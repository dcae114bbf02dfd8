use Rattle.pos_store.proofs.Common.{Err, HasItsFiles, ImageFault, IsErrOf, Ok, ap, arith, layout_of}
use Rattle.pos_store.proofs.Common.{limits_of, outcome_of_all, refl, rules, sym, weaker, ⊎_elim, ◌+◌, ◌∙◌, ◌≡◌}
use Rattle.pos_store.proofs.CommitLemmas.{IsGiven, same_layout, short, appending_stands, renewing_stands}
use Rattle.pos_store.proofs.CommitLemmas.{failed_commits, appended_holds, appended_commits, renewed_holds}
use Rattle.pos_store.proofs.CommitLemmas.{renewed_commits, wrote_image, wrote_record}
use Rattle.pos_store.proofs.DraftLemmas.{unmade_commits}
use Rattle.pos_store.proofs.commits.commit_group.Given.{Over}
use Rattle.pos_store.proofs.commits.commit_group.Goals.{After-make_draft}
use Rattle.pos_image.specs.declared.fault.ImageFault.TheVariants as image
use Rattle.pos_log.specs.declared.fault.LogFault.TheVariants as log
use Rattle.pos_store.specs.declared.medium.StoreMedium.TheVariants as which
use Rattle.pos_store.proofs.commits.commit_group.Goals as goal

module _ (g : Over) (c : After-make_draft g) where
  sound : HasItsFiles g.D.Disk (which.Ready c.in-Ready.log c.in-Ready.directory)
  sound = rw c.in-Ready.is at c.requires.sound

  given : outcome_of_all c.in-Ready.directory.limits c.in-Ready.directory.files c.args.changes.now
      ≡ Ok c.make_draft.new.directory.files
      → IsGiven g.D.Disk c.in-Ready.log c.in-Ready.directory.files c.make_draft.new.directory.files c.args.changes.now
  given outcome =
      let (ready, holds, limits) = sound in
      record {
        ready = ready;
        holds = holds;
        group = c.requires.group;
        some = search rules;
        outcome = rw limits at outcome;
      }

pub returns-in-Ok : goal.returns-in-Ok
returns-in-Ok g c =
    let here = (goal.at.returns-in-Ok g c).After-make_draft in
    let (outcome, draft) = rw c.in-Ok-Record.field-0-is at c.in-Ok-Record.ensures.made in
    let (fits, spelled) = draft in
    let did = rw (c.deref.ensures.value, spelled) at c.in-Ok.ensures.appends in
    let it = given g here outcome in
    let kept = same_layout c.in-Ready.log did.appended in
    let (ready, holds, limits) = sound g here in
    record {
      sound = (
        did.ready,
        appended_holds it c.append_fitting.new.self fits did,
        c.make_draft.ensures.limits ∙ limits ∙ ap limits_of (sym kept),
      );
      commits = rw c.in-Ready.is (appended_commits it c.append_fitting.new.self fits did);
    }

pub returns-in-Err-append_fitting-clause-commits : goal.returns-in-Err-append_fitting-clause-commits
returns-in-Err-append_fitting-clause-commits g c =
    let here = (goal.at.returns-in-Err-append_fitting-clause-commits g c).After-make_draft in
    let (outcome, draft) = rw c.in-Ok-Record.field-0-is at c.in-Ok-Record.ensures.made in
    let (fits, spelled) = draft in
    let did = rw (c.deref.ensures.value, spelled) at c.append_fitting.ensures.appends in
    let it = given g here outcome in
    let failed : IsErrOf c.append_fitting.result log.Device =
    rw (c.in-Err-append_fitting.is, c.in-Err-append_fitting.ensures.faults) refl in
    rw (c.in-Ready.is, c.fail.ensures.store, c.fail.ensures.fault) (failed_commits it
    c.append_fitting.new.self.images.disk (layout_of c.append_fitting.new.self.images.slot)
    c.in-Ready.log.images.sequence (same_layout c.in-Ready.log (did.failed failed)) (rw fits refl)
    (λ exhausted. let over = exhausted.0 in cc)
    (λ h. weaker _ _ _ _ (appending_stands it h) (did.any_moment h))
    (λ h bytes. g.met.D.Disk.counts_now c.append_fitting.new.self.images.disk
    (g.D.Disk.state c.in-Ready.log.images.disk).moment bytes (did.keeps.honest.0 h))
    (λ h. did.device h failed) (wrote_record it fits did) did.keeps)

pub returns-in-Ok-renew : goal.returns-in-Ok-renew
returns-in-Ok-renew g c =
    let here = (goal.at.returns-in-Ok-renew g c).After-make_draft in
    let (outcome, draft) = rw c.in-Ok-Image.field-0-is at c.in-Ok-Image.ensures.made in
    let (over, more, whole, spelled, fits) = draft in
    let did = c.in-Ok-renew.ensures.renews in
    let it = given g here outcome in
    let (ready, holds, limits) = sound g here in
    let body = c.in-Ok-Image.body.items in
    record {
      sound = (
        did.ready,
        renewed_holds it c.renew.new.self over body whole spelled did,
        c.make_draft.ensures.limits ∙ limits ∙ ap limits_of (sym did.layout_is),
      );
      commits = rw c.in-Ready.is (renewed_commits it c.renew.new.self over body whole spelled did more
          (wrote_image it over (short (layout_of c.in-Ready.log.images.slot) body fits) c.in-Ok-renew.ensures.rest));
    }

pub returns-in-Err-renew-clause-commits : goal.returns-in-Err-renew-clause-commits
returns-in-Err-renew-clause-commits g c =
    let here = (goal.at.returns-in-Err-renew-clause-commits g c).After-make_draft in
    let (outcome, draft) = rw c.in-Ok-Image.field-0-is at c.in-Ok-Image.ensures.made in
    let (over, more, whole, spelled, fits) = draft in
    let did = c.renew.ensures.renews in
    let it = given g here outcome in
    let body = c.in-Ok-Image.body.items in
    let inside = short (layout_of c.in-Ready.log.images.slot) body fits in
    let device : c.in-Err-renew.field-0 ≡ image.Device = ⊎_elim (λ large. absurd (omega (
      arith,
      inside,
      did.too_large.0 (c.in-Err-renew.is ∙ ap (λ (f : ImageFault). Err f) large),
    ))) (⊎_elim (λ last. absurd (more (did.exhausted.0 (c.in-Err-renew.is ∙ ap (λ (f : ImageFault). Err f) last)).1))
    (λ is. is)) c.in-Err-renew.ensures.faults in
    rw (c.in-Ready.is, c.fail-in-Err-renew.ensures.store, c.fail-in-Err-renew.ensures.fault)
    (failed_commits it c.renew.new.self.images.disk (layout_of c.renew.new.self.images.slot)
    (c.in-Ready.log.images.sequence + 1)
    (did.same_layout (rw c.in-Err-renew.is refl)) (rw over refl) (λ exhausted. more exhausted.1)
    (λ h. weaker _ _ _ _ (renewing_stands it body whole spelled h) (did.any_moment h))
    (λ h bytes. g.met.D.Disk.counts_now c.renew.new.self.images.disk
    (g.D.Disk.state c.in-Ready.log.images.disk).moment bytes (did.keeps.honest.0 h))
    (λ h. did.device h (c.in-Err-renew.is ∙ ap (λ (f : ImageFault). Err f) device))
    (wrote_image it over inside c.renew.ensures.rest) did.keeps)

pub returns-in-Err-clause-commits : goal.returns-in-Err-clause-commits
returns-in-Err-clause-commits g c =
    let (ready, holds, limits) = rw c.in-Ready.is at c.requires.sound in
    rw (c.in-Ready.is, c.in-Err.ensures.unchanged) (unmade_commits ready holds
    (λ h f left. g.met.D.Disk.only_now c.in-Ready.log.images.disk f h left) (rw c.in-Ready.is at c.requires.applicable)
    c.in-Err.ensures.made)
