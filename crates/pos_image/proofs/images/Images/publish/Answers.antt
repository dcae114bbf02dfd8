use Rattle.pos_image.proofs.Common.{HasEither, IsWritable, LeavesOnly, Prepared, SameBut, Some, [], ap, arith, image_of}
use Rattle.pos_image.proofs.Common.{images_of, is_open, next_of, prepared_image, span_of, splice, start, sym, true, ◌∙◌}
use Rattle.pos_image.proofs.Common.{◌∷◌, ◌≡◌}
use Rattle.pos_image.proofs.LooseLogLemmas.{publish_leaves}
use Rattle.pos_image.proofs.ChangeLemmas.{opened_current, opened_gate, opened_new, ready}
use Rattle.pos_image.proofs.PlaceLemmas.{places}
use Rattle.pos_image.proofs.images.Images.publish.Given.{Over}
use Rattle.pos_image.proofs.images.Images.publish.Goals.{After-write_through}
use Rattle.pos_image.proofs.images.Images.publish.Goals as goal

module _ (g : Over) (c : After-write_through g) where
  is_writable : IsWritable g.D.Disk (images_of c.self.inside.disk c.self.inside.current.slot
      c.self.inside.current.body.items c.self.inside.current.sequence (prepared_image c.self.inside.prepared))
  is_writable = rw c.self.view_is c.requires.ready

  abbrev it : Prepared
  it = image_of c.in-Some.next.slot c.in-Some.next.body.items c.in-Some.next.sequence

  next_is : prepared_image c.self.inside.prepared ≡ Some it
  next_is = ap prepared_image (sym c.take.ensures.value ∙ c.in-Some.is)

  -- a crash at any moment, whatever the write answers
  moments : g.D.Disk.honest c.args.self.now.disk → LeavesOnly (g.D.Disk.state c.args.self.now.disk)
      (g.D.Disk.state c.write_through.new.disk) (HasEither c.args.self.now
      (span_of c.args.self.now (g.D.Disk.state c.args.self.now.disk)) (next_of c.args.self.now))
  moments = rw (← c.self.view_is) (λ honest. publish_leaves _ _ _ it next_is
      (is_writable.held honest) c.start.result c.start.ensures (c.write_through.ensures.any_moment honest))

  -- a write that succeeded opened the gate alone
  opened : g.D.Disk.honest c.self.inside.disk → (g.D.Disk.state c.write_through.new.disk).reading
      ≡ splice (g.D.Disk.state c.self.inside.disk).reading c.start.result (165 ∷ []) → SameBut (start it.slot) 1
      (g.D.Disk.state c.self.inside.disk).reading (g.D.Disk.state c.write_through.new.disk).reading
      × (is_open (g.D.Disk.state c.write_through.new.disk).reading (start it.slot) ≡ true)
  opened honest written =
      let here = places c.in-Some.next.slot in
      opened_gate _ _ (start c.in-Some.next.slot) (omega (
        arith,
        g.met.D.Disk.whole c.self.inside.disk honest,
        is_writable.large,
      )) (rw c.start.ensures at written)

pub returns-in_err-write_through-clause-any_moment : goal.returns-in_err-write_through-clause-any_moment
returns-in_err-write_through-clause-any_moment g c =
    moments g (goal.at.returns-in_err-write_through-clause-any_moment g c).After-write_through

pub returns-clause-any_moment : goal.returns-clause-any_moment
returns-clause-any_moment g c = moments g (goal.at.returns-clause-any_moment g c).After-write_through

pub returns-clause-ready : goal.returns-clause-ready
returns-clause-ready g c =
    let here = (goal.at.returns-clause-ready g c).After-write_through in
    ready g.D.Disk _ (omega (arith, (is_writable g here).large, c.write_through.ensures.keeps.size)) (omega arith)
    (λ honest.
    let was = c.write_through.ensures.keeps.honest.1 honest in
    let gate = opened g here was (c.in_ok-write_through.ensures.written was) in
    record {
      at_rest = c.in_ok-write_through.ensures.at_rest was;
      current = opened_current g.D.Disk _ (it g here) (next_is g here) was (is_writable g here) _ gate.0 gate.1;
      prepared = rw c.take.ensures.after tt;
    })

pub returns-clause-log : goal.returns-clause-log
returns-clause-log g c = rw (← c.self.view_is) (λ was.
    let here = (goal.at.returns-clause-log g c).After-write_through in
    let gate = opened g here was (c.in_ok-write_through.ensures.written was) in
    opened_new g.D.Disk _ (it g here) (next_is g here) was (is_writable g here) _ gate.0 gate.1)
