use Rattle.pos_image.proofs.Common.{IsBeside, IsWritable, KeepsImage, LeavesOnly, Prepared, Some, arith, image_of}
use Rattle.pos_image.proofs.Common.{images_of, log_of, prepared_image, rules, span_of, ◌≡◌}
use Rattle.pos_image.proofs.LooseLogLemmas.{beside_leaves}
use Rattle.pos_image.proofs.ChangeLemmas.{placed, ready}
use Rattle.pos_image.proofs.CurrentImageLemmas.{stage_current}
use Rattle.pos_image.proofs.LogLemmas.{kept_image}
use Rattle.pos_image.proofs.PlaceLemmas.{beside_apart}
use Rattle.pos_image.proofs.images.Images.put_beside.Given.{Over}
use Rattle.pos_image.proofs.images.Images.put_beside.Goals.{After-place_image}
use Rattle.pos_image.proofs.images.Images.put_beside.Goals as goal

module _ (g : Over) (c : After-place_image g) where
  is_writable : IsWritable g.D.Disk (images_of c.self.inside.disk c.self.inside.current.slot
      c.self.inside.current.body.items c.self.inside.current.sequence (prepared_image c.self.inside.prepared))
  is_writable = rw c.self.view_is c.requires.ready

  abbrev it : Prepared
  it = image_of c.args.image.slot c.args.image.body.items c.args.image.sequence

  beside : IsBeside c.self.inside.current.slot c.self.inside.current.sequence it
  beside = rw (← c.self.view_is) at c.requires.beside

  -- a crash at any moment, whatever the disk answers
  moments : g.D.Disk.honest c.args.self.now.disk
      → LeavesOnly (g.D.Disk.state c.args.self.now.disk) (g.D.Disk.state c.place_image.new.disk)
      (KeepsImage c.args.self.now (span_of c.args.self.now (g.D.Disk.state c.args.self.now.disk)))
  moments = rw (← c.self.view_is)
      (λ honest. beside_leaves _ _ _ it beside (is_writable.held honest) (c.place_image.ensures.any_moment honest))

pub returns-in_err-place_image-clause-prepares : goal.returns-in_err-place_image-clause-prepares
returns-in_err-place_image-clause-prepares g c =
    let any_moment = moments g (goal.at.returns-in_err-place_image-clause-prepares g c).After-place_image in
    search rules

pub returns-clause-prepares : goal.returns-clause-prepares
returns-clause-prepares g c =
    let here = (goal.at.returns-clause-prepares g c).After-place_image in
    let d = c.self.inside in
    let s1 = g.D.Disk.state c.place_image.new.disk in
    let was = is_writable g here in
    let ok = c.in_ok-place_image.ensures in
    let apart = beside_apart d.current.slot d.current.sequence (it g here) (beside g here) in
    let any_moment = moments g here in
    let log : g.D.Disk.honest c.args.self.now.disk
    → log_of s1.reading ≡ log_of (g.D.Disk.state c.args.self.now.disk).reading =
    rw (← c.self.view_is) (λ honest. (kept_image apart (was.held honest).current (ok.same honest)).log) in
    let is_ready_now = ready g.D.Disk
    (images_of c.place_image.new.disk d.current.slot d.current.body.items d.current.sequence (Some (it g here)))
    (omega (arith, was.large, c.place_image.ensures.keeps.size)) was.counted (λ honest.
    let before = c.place_image.ensures.keeps.honest.1 honest in
    record {
      at_rest = ok.at_rest before;
      current = stage_current apart (was.held before).current (ok.same before);
      prepared = record {
        there = placed s1.reading c.args.image.body.items c.args.image.slot c.args.image.sequence c.requires.short
            (ok.closed before) (ok.no_log before) (ok.written before);
        beside = beside g here;
      };
    }) in
    search rules
