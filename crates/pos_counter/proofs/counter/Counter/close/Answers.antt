use Rattle.pos_counter.proofs.Common.{Close, Some, [], ap, devices_in, part_with, refl, sym, without_control, ◌∙◌}
use Rattle.pos_counter.proofs.LiftLemmas.{decided_none, decided_some, kept_at, kept_machine, set_machine}
use Rattle.pos_counter.proofs.OrderLemmas.{answered_common}
use Rattle.pos_counter.proofs.ServiceLemmas.{quiet_serves, stays_serves}
use Rattle.pos_counter.proofs.CrashLemmas.{rest_settled, without_rest}
use Rattle.pos_counter.proofs.counter.Counter.close.Goals as goal

pub returns-in-None : goal.returns-in-None
returns-in-None g c =
    let old = c.args.self.now in
    let here = c.index_mut-control.ensures.value in
    stays_serves g.D.Disk g.P.Peripheral old _ _ _ refl
    (answered_common g.P.Peripheral old c.args.number Close refl)
    (g.met.D.Disk.only_now _) c.requires.sound refl c.requires.sound.devices
    (λ part. rw (kept_at _ _ _ c.requires.in_range here) (decided_some (rw (← c.in-None.ensures)) refl
    (kept_machine old.controls.items _ _ _ part c.args.number refl here)))

pub returns-in-Some-Totals : goal.returns-in-Some-Totals
returns-in-Some-Totals g c =
    let old = c.args.self.now in
    let was = part_with old.totals.totals [] 0 in
    let opens = sym c.in-Some-Totals.ensures ∙ ap Some c.in-Some-Totals.field-0-is in
    let done = rw opens at c.close.ensures.outcome in
    quiet_serves g.D.Disk g.P.Peripheral old _ _ _ refl
    (answered_common g.P.Peripheral old c.args.number Close refl) (without_control old.totals.totals c.args.number)
    (g.met.D.Disk.only_now _) c.drop_control.ensures.disk c.drop_control.ensures.totals
    (rest_settled (without_rest was c.args.number)) c.requires.sound c.requires.sound.devices
    (λ left failures so.
    let now = part_with (without_control old.totals.totals c.args.number) left failures in
    rw (kept_at _ _ _ c.requires.in_range c.index_mut-control.ensures.value, opens) (decided_none refl (
      done.0,
      set_machine old.controls.items old.claims
          (devices_in g.P.Peripheral old.devices) old.totals_name now c.args.number c.close.new.self done.1,
    )))

pub returns-in-Some-At : goal.returns-in-Some-At
returns-in-Some-At g c =
    let old = c.args.self.now in
    let opens = sym c.in-Some-At.ensures ∙ ap Some c.in-Some-At.field-0-is in
    let done = rw opens at c.close-in-Some-At.ensures.outcome in
    stays_serves g.D.Disk g.P.Peripheral old _ _ _ refl
    (answered_common g.P.Peripheral old c.args.number Close refl)
    (g.met.D.Disk.only_now _) c.requires.sound refl c.requires.sound.devices
    (λ part. rw (kept_at _ _ _ c.requires.in_range c.index_mut-control.ensures.value, opens) (decided_none refl (
      done.0,
      rw c.release.ensures (set_machine old.controls.items _ _ _ part c.args.number c.close-in-Some-At.new.self done.1),
    )))
