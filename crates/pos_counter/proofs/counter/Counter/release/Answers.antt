use Rattle.pos_counter.proofs.Common.{At, List, Machine, OpenDevice, Option, holder_at, holder_in, open_place, released}
use Rattle.pos_counter.proofs.Common.{released_by, with_totals, ℕ, ◌≡◌}
use Rattle.pos_counter.proofs.Common.{None, Release, Some, Totals, ap, devices_in, part_with, refl, settled, sym, ◌∙◌}
use Rattle.pos_counter.proofs.LiftLemmas.{decided_some, decided_weaker, kept_at, kept_machine, set_machine}
use Rattle.pos_counter.proofs.OrderLemmas.{answered_common}
use Rattle.pos_counter.proofs.ServiceLemmas.{quiet_serves, stays_serves}
use Rattle.pos_counter.proofs.counter.Counter.release.Goals as goal

-- who holds a device at a place, and what its release leaves
held_at : (claims : List (Option ℕ)) (area : Option ℕ) (device : Option OpenDevice) (place : ℕ)
    → device ≡ Some (At place) → holder_in claims area device ≡ holder_at claims (open_place device)
held_at claims area device place is = rw is refl

freed_at : (m : Machine) (n : ℕ) {device : Option OpenDevice} {place : ℕ} → device ≡ Some (At place)
    → released device m n ≡ record m { claims = released_by m.claims (open_place device) n }
freed_at m n is = rw is refl

pub returns-in-None : goal.returns-in-None
returns-in-None g c =
    let old = c.args.self.now in
    let here = c.index_mut-control.ensures.value in
    stays_serves g.D.Disk g.P.Peripheral old _ _ _ refl
    (answered_common g.P.Peripheral old c.args.number Release refl)
    (g.met.D.Disk.only_now _) c.requires.sound refl c.requires.sound.devices
    (λ part. rw (kept_at _ _ _ c.requires.in_range here) (decided_some (rw (← c.in-None.ensures)) refl
    (kept_machine old.controls.items _ _ _ part c.args.number refl here)))

pub returns-in-Some-Totals : goal.returns-in-Some-Totals
returns-in-Some-Totals g c =
    let old = c.args.self.now in
    let here = c.index_mut-control.ensures.value in
    let opens = sym c.in-Some-Totals.ensures ∙ ap Some c.in-Some-Totals.field-0-is in
    let held = ap (holder_in old.claims old.totals.totals.area) opens in
    let device = c.index_mut-control.result.now.control.device in
    let frees : (m : Machine)
    → released device m c.args.number ≡ with_totals m (record m.totals.totals { area = None }) =
    λ m. ap (λ d. released d m c.args.number) opens in
    quiet_serves g.D.Disk g.P.Peripheral old _ _ _ refl
    (answered_common g.P.Peripheral old c.args.number Release refl) c.release_area.new.totals.totals
    (g.met.D.Disk.only_now _) c.release_area.ensures.disk refl
    (λ left. ap (λ (t : Totals). settled t.layout t.mode left) c.release_area.ensures.rest) c.requires.sound
    c.requires.sound.devices
    (λ left failures so.
    let devices = devices_in g.P.Peripheral old.devices in
    let now = part_with (record old.totals.totals { area = None }) left failures in
    rw (kept_at _ _ _ c.requires.in_range here, held, frees) (decided_weaker (λ done. (
      done.0,
      rw done.2 (set_machine old.controls.items old.claims devices old.totals_name now c.args.number
          c.release_area.new.control done.1),
    ))
    (λ same. rw same.1 (kept_machine old.controls.items _ devices _ _ c.args.number same.0 here))
    c.release_area.ensures.answer))

pub returns-in-Some-At : goal.returns-in-Some-At
returns-in-Some-At g c =
    let old = c.args.self.now in
    let here = c.index_mut-control.ensures.value in
    let opens = sym c.in-Some-At.ensures ∙ ap Some c.in-Some-At.field-0-is in
    let device = c.index_mut-control.result.now.control.device in
    let frees : (m : Machine)
    → released device m c.args.number ≡ record m { claims = released_by m.claims (open_place device) c.args.number } =
    λ m. freed_at m c.args.number opens in
    stays_serves g.D.Disk g.P.Peripheral old _ _ _ refl
    (answered_common g.P.Peripheral old c.args.number Release refl)
    (g.met.D.Disk.only_now _) c.requires.sound refl
    c.requires.sound.devices
    (λ part. rw (kept_at _ _ _ c.requires.in_range here, held_at _ _ _ _ opens, frees) (decided_weaker
    (λ done. (done.0, rw done.2 (set_machine old.controls.items _ _ _ part c.args.number c.release.new.self done.1)))
    (λ same. rw same.1 (kept_machine old.controls.items _ _ _ part c.args.number same.0 here)) c.release.ensures))
