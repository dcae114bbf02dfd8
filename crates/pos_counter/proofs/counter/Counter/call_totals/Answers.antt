use Rattle.pos_counter.proofs.Common.{HardTotals, Some, TheTotals, [], controls_of, machine, needs_of, part_with, refl}
use Rattle.pos_counter.proofs.Common.{◌≡◌, Done, Empty, Ok, ap, open_place}
use Rattle.pos_counter.proofs.HardwareLemmas.{at_number, own_call, totals_let, totals_refuse}
use Rattle.pos_counter.proofs.SoundnessLemmas.{totals_category}
use Rattle.pos_counter.proofs.LiftLemmas.{decided_some, kept_at}
use Rattle.pos_counter.proofs.OrderLemmas.{placeless_orders}
use Rattle.pos_counter.proofs.ServiceLemmas.{quiet_serves}
use Rattle.pos_counter.proofs.TotalsStepLemmas.{files_serve}
use Rattle.pos_common.proofs.CheckLemmas.{lets_own}
use Rattle.pos_counter.specs.Orders.{orders_in}
use Rattle.pos_counter.proofs.counter.Counter.call_totals.Goals as goal

pub returns-in-Err : goal.returns-in-Err
returns-in-Err g c =
    let old = c.args.self.now in
    let h = c.index-control.result.now in
    let found = kept_at _ _ _ c.requires.in_range c.index-control.ensures in
    let opens = at_number (controls_of old.controls.items) c.args.number
    (λ control. control.device ≡ Some TheTotals) found c.requires.totals in
    let part = part_with old.totals.totals [] 0 in
    let is = totals_category c.args.number (c.requires.sound.machine part) found opens in
    let out = simp (c.in-Err.is, c.area.ensures, c.needs-needs.ensures) at c.check_by.ensures in
    quiet_serves g.D.Disk g.P.Peripheral old _ _ _ refl
    (λ part. placeless_orders (machine g.P.Peripheral old part) c.args.number c.args.call.now h.control
    (Ok (Done Empty)) (orders_in g.P.Peripheral old.devices) found (ap open_place opens)) old.totals.totals
    (g.met.D.Disk.only_now _) refl refl
    (λ left. refl) c.requires.sound c.requires.sound.devices
    (λ left failures so.
    let m = machine g.P.Peripheral old (part_with old.totals.totals left failures) in
    rw found (decided_some (rw (own_call m c.args.number h.control c.args.call.now c.requires.own).rows
    (totals_refuse m c.args.number h.control c.args.call.now is opens out)) refl refl))

pub call_files-requires : goal.call_files-requires
call_files-requires g c =
    let one = c.index-control.result.now.control in
    let lets = simp (c.in_default.is, c.needs-needs.ensures) at c.check_by.ensures in
    lets_own c.args.number _ one (needs_of HardTotals c.args.call.now) (lets [])

pub returns : goal.returns
returns g c =
    let h = c.index-control.result.now in
    let found = kept_at _ _ _ c.requires.in_range c.index-control.ensures in
    let lets = simp (c.in_default.is, c.area.ensures, c.needs-needs.ensures) at c.check_by.ensures in
    let old = c.args.self.now in
    let opens = at_number (controls_of old.controls.items) c.args.number
    (λ control. control.device ≡ Some TheTotals) found c.requires.totals in
    let part = part_with old.totals.totals [] 0 in
    let is = totals_category c.args.number (c.requires.sound.machine part) found opens in
    files_serve g.D.Disk g.P.Peripheral c.args.self.now c.args.number h.control c.args.call.now c.call_files.result
    c.requires.own found opens
    (λ left failures. totals_let (machine g.P.Peripheral c.args.self.now (part_with c.args.self.now.totals.totals left
    failures)) c.args.number h.control c.args.call.now is opens lets) (g.met.D.Disk.only_now _) c.call_files.ensures
    c.requires.sound
