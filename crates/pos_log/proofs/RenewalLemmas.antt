-- What a new image in the place of the old one did to the log.
use Rattle.pos_log.proofs.Common.{DiskState, Err, Ghosts, HasEither, HasNewImage, HasNoRecords, HasOldOrNew, IsReady}
use Rattle.pos_log.proofs.Common.{LeavesOnly, List, Ok, Prepared, Renews, View, [], ap, arith, followed_by, get_or}
use Rattle.pos_log.proofs.Common.{length, next_of, subst, image_length, inl, inr, layout_of, log_over, log_place}
use Rattle.pos_log.proofs.Common.{log_of, log_some, rules, weaker, ℕ, ⊎_elim, ◌∙◌, ◌≡◌}
use Rattle.pos_disk.specs.State.{IsAtRest}
use Rattle.pos_image.proofs.LooseLogLemmas.{whole_image}
use Rattle.pos_image.specs.DiskCalls.{Keeps, KeepsBeside}
use Rattle.pos_image.specs.Images.{KeepsImage, span_of}
use Rattle.std.proofs.Common.{Some}
use Rattle.pos_image.specs.Layout.{start}
use Rattle.pos_image.specs.declared.slot.Slot.{Slot}
use Rattle.pos_image.specs.declared.fault.ImageFault.{ImageFault}
use Rattle.pos_image.specs.declared.layout.Layout.{Layout}
use Rattle.pos_log.specs.Renewing.{Replaces}

-- an image was put beside the current one, and then its gate was opened: nothing else was written
pub beside_on : {slot gate : Slot} {n : ℕ} {old mid new : DiskState} → gate ≡ slot → KeepsBeside slot n old mid
    → Keeps (start gate) 1 mid new → KeepsBeside slot n old new
beside_on is first second =
    let same = rw is at second in
    record {
      same_length = same.same_length ∙ first.same_length;
      elsewhere = λ i outside. same.elsewhere i (λ hit. outside (inl (omega arith))) ∙ first.elsewhere i outside;
    }

-- a new image has no records
pub no_records : (layout : Layout) (body : List ℕ) (sequence : ℕ) (bytes : List ℕ)
    → HasNewImage layout body sequence bytes → HasNoRecords layout body sequence bytes
no_records layout body sequence bytes new = grind (arith, image_length, inl, inr, log_some)

-- at any moment while an image is put beside the current one, and then published
pub both_moments : {D : Type 0} (old mid : View D) (it : Prepared) (s0 s1 s2 : DiskState)
    → mid ≡ record old { disk = mid.disk; prepared = Some it } → IsAtRest s1 → log_of s1.reading ≡ log_of s0.reading
    → LeavesOnly s0 s1 (KeepsImage old (span_of old s0)) → LeavesOnly s1 s2
    (HasEither mid (span_of mid s1) (next_of mid)) → LeavesOnly s0 s2 (HasEither old (span_of old s0) it)
both_moments {D} old mid it s0 s1 s2 is rest log first second =
    let now : View D = record old { disk = mid.disk; prepared = Some it } in
    let kept : (c : List ℕ) → KeepsImage now (span_of now s1) c → KeepsImage old (span_of old s0) c =
    λ c keeps. record {
      image = keeps.image;
      log = record {
        same_length = keeps.log.same_length ∙ ap length log;
        settled = λ i tight. keeps.log.settled i (rest _) ∙ ap (λ (l : List ℕ). get_or l i 0) log;
      };
    } in
    followed_by s0 s1 s2 _ (weaker s0 s1 _ _ (λ c keeps. inl keeps) first)
    (weaker s1 s2 _ _ (λ c either. ⊎_elim (λ keeps. inl (kept c keeps)) (λ made. inr made) either)
    (subst (λ (v : View D). LeavesOnly s1 s2 (HasEither v (span_of v s1) (next_of v))) is second))

-- the old image with its log, or the new one with none
pub renewing : {D : Type 0} (old new : DiskState) (images : View D) (it : Prepared) → IsAtRest old
    → LeavesOnly old new (HasEither images (span_of images old) it)
    → LeavesOnly old new (HasOldOrNew images (log_of old.reading) (layout_of it.slot) it.body it.sequence)
renewing old new images it rest moments =
    weaker old new _ _ (λ c either. ⊎_elim (λ kept. inl (whole_image images old c rest kept))
    (λ made. inr (no_records _ _ _ c made)) either) moments

module _ {D : Type 0} (bound : Ghosts D) (old : View D) (tail : ℕ) (it : Prepared) (now : View D)
    (ready : IsReady bound old) where
  -- the image was published
  pub renewed : (first : ℕ) → first ≡ log_place (layout_of now.slot) → Replaces bound old it (Ok tt) now
      → Renews bound (log_over old tail) (layout_of it.slot) it.body it.sequence (Ok tt) (log_over now first)
  renewed first first_is is =
      let none = λ (honest : bound.honest old.disk). no_records (layout_of it.slot) it.body it.sequence
      (bound.state now.disk).reading (is.log honest) in
      record {
        ready = record {
          images = is.ready;
          records = λ h. ([], (none (is.keeps.honest.1 h)).log, omega (arith, first_is));
        };
        layout_is = ap (λ (p : Prepared). layout_of p.slot) is.published;
        body_is = ap (λ (p : Prepared). p.body) is.published;
        sequence_is = ap (λ (p : Prepared). p.sequence) is.published;
        tail_is = first_is ∙ ap (λ (p : Prepared). log_place (layout_of p.slot)) is.published;
        image = none;
        any_moment = λ h. renewing _ _ old it (ready.sound h).at_rest (is.any_moment h);
        too_large = is.too_large;
        exhausted = is.exhausted;
        unchanged = λ err. absurd cc;
        same_layout = λ err. absurd cc;
        device = is.device;
        counts = is.counts;
        keeps = is.keeps;
      }

  -- or wasn't
  pub not_renewed : (fault : ImageFault) → Replaces bound old it (Err fault) now
      → Renews bound (log_over old tail) (layout_of it.slot) it.body it.sequence (Err fault) (log_over now tail)
  not_renewed fault is =
      let any_moment =
      λ (honest : bound.honest old.disk). renewing _ _ old it (ready.sound honest).at_rest (is.any_moment honest) in
      search (rules, is, any_moment)
