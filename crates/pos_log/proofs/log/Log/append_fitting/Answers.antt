use Rattle.pos_log.proofs.Common.{IsLogReady, View, [], ap, arith, layout_of, length, log_over}
use Rattle.pos_log.proofs.Common.{log_place, rules, slot_size, take, text_behind_gate, wider, ◌+◌, ◌-◌, ◌∙◌, ◌∷◌, ◌≡◌, ◌≤◌}
use Rattle.pos_log.proofs.AppendLemmas.{WritesThrough, appended, failed_open, failed_put, never_failed}
use Rattle.pos_log.proofs.log.Log.append_fitting.Given.{Over}
use Rattle.pos_log.proofs.log.Log.append_fitting.Goals.{After-write_through, After-write_through-2}
use Rattle.pos_log.proofs.log.Log.append_fitting.Goals as goal

module _ (g : Over) (c : After-write_through g) where
  is_ready : IsLogReady g.D.Disk (log_over c.self.inside.images c.self.inside.tail)
  is_ready = rw c.self.view_is c.requires.ready

  fits : c.self.inside.tail + 6 + length c.args.group.now ≤ slot_size (layout_of c.self.inside.images.slot)
  fits = rw (← c.self.view_is) at c.requires.fits

  at_is : c.self.inside.tail + 1 - log_place (layout_of c.self.inside.images.slot)
      ≡ c.self.inside.tail - log_place (layout_of c.self.inside.images.slot) + 1
  at_is = omega (arith, c.self.invariant.0)

  text_is : take (5 + length c.args.group.now) c.deref.result.now ≡ text_behind_gate c.args.group.now
  text_is = rw c.deref.ensures.value c.lay_out_record.ensures.text

  puts : WritesThrough g.D.Disk c.self.inside.images c.self.inside.images.disk
      (c.self.inside.tail - log_place (layout_of c.self.inside.images.slot) + 1)
      (text_behind_gate c.args.group.now) c.write_through.new.images.disk
  puts = rw (← at_is, ← text_is) record {
    moments = c.write_through.ensures.any_moment;
    rest = λ honest. wider (omega (arith, c.self.invariant.0)) (omega (arith, c.self.invariant.0))
        (c.write_through.ensures.rest honest);
    keeps = c.write_through.ensures.keeps;
  }

pub returns-in_default-clause-appends : goal.returns-in_default-clause-appends
returns-in_default-clause-appends g c =
    let here = (goal.at.returns-in_default-clause-appends g c).After-write_through in
    rw (← c.self.view_is) (failed_put g.D.Disk c.self.inside.images c.self.inside.tail c.args.group.now
    (is_ready g here) c.self.invariant.0 (fits g here) _ (puts g here) c.write_through.new.images
    c.write_through.ensures.same
    (λ honest. c.in_default.ensures.device honest (search rules)))

module _ (g : Over) (c : After-write_through-2 g) where
  opens : WritesThrough g.D.Disk c.self.inside.images c.write_through.new.images.disk
      (c.self.inside.tail - log_place (layout_of c.self.inside.images.slot))
      (165 ∷ []) c.write_through-2.new.images.disk
  opens = record {
    moments = rw c.write_through.ensures.same at c.write_through-2.ensures.any_moment;
    rest = λ honest. wider (omega (arith, c.self.invariant.0)) (omega (arith, c.self.invariant.0))
        ((rw c.write_through.ensures.same at c.write_through-2.ensures.rest) honest);
    keeps = rw c.write_through.ensures.same at c.write_through-2.ensures.keeps;
  }

  same : c.write_through-2.new.images ≡ record c.self.inside.images { disk = c.write_through-2.new.images.disk }
  same = c.write_through-2.ensures.same ∙ ap (λ (im : View g.row.D.Denot). record im
      { disk = c.write_through-2.new.images.disk }) c.write_through.ensures.same

pub returns-in_default-write_through-clause-appends : goal.returns-in_default-write_through-clause-appends
returns-in_default-write_through-clause-appends g c =
    let at = goal.at.returns-in_default-write_through-clause-appends g c in
    let here = at.After-write_through in
    let also = at.After-write_through-2 in
    rw (← c.self.view_is) (failed_open g.D.Disk c.self.inside.images c.self.inside.tail c.args.group.now
    (is_ready g here) c.self.invariant.0 (fits g here) _ (puts g here) (rw (at_is g here, text_is g here) at
    c.in-Ok.ensures.written) _ (opens g also) c.write_through-2.new.images (same g also)
    (λ honest. c.in_default-write_through.ensures.device honest (search rules)))

pub returns-clause-appends : goal.returns-clause-appends
returns-clause-appends g c =
    let at = goal.at.returns-clause-appends g c in
    let here = at.After-write_through in
    let also = at.After-write_through-2 in
    rw (← c.self.view_is) (appended g.D.Disk c.self.inside.images c.self.inside.tail c.args.group.now (is_ready g here)
    c.self.invariant.0 (fits g here) _ (puts g here) (rw (at_is g here, text_is g here) at c.in-Ok.ensures.written) _
    (opens g also) (rw c.write_through.ensures.same at c.in-Ok-write_through.ensures.written)
    c.write_through-2.new.images _ (same g also) (omega arith) c.in-Ok-write_through.ensures.ready
    (λ honest. never_failed (g.D.Disk.state c.self.inside.images.disk) (g.D.Disk.state c.write_through.new.images.disk)
    (c.in-Ok.ensures.counts honest))
    (λ honest. never_failed (g.D.Disk.state c.write_through.new.images.disk)
    (g.D.Disk.state c.write_through-2.new.images.disk) (c.in-Ok-write_through.ensures.counts honest)))
