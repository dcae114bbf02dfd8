use Rattle.pos_counter.proofs.Common.{Set, machine, part_with, refl, sym, ◌∙◌}
use Rattle.pos_counter.proofs.LiftLemmas.{kept_same}
use Rattle.pos_counter.proofs.OrderLemmas.{common_given}
use Rattle.pos_counter.proofs.RecoveryLemmas.{plain_set}
use Rattle.pos_counter.proofs.ServiceLemmas.{quiet_serves}
use Rattle.pos_counter.specs.Orders.{orders_in}
use Rattle.pos_counter.proofs.counter.Counter.set.Goals as goal

pub returns : goal.returns
returns g c =
    let old = c.args.self.now in
    let h = c.index_mut-control.result.now in
    let is = c.index_mut-control.ensures.value in
    let same = kept_same old.controls.items h c.requires.in_range c.index.ensures is in
    let plain = rw (same, c.is_ready.ensures) at (sym c.is_recovering.ensures ∙ c.if-is_recovering.false) in
    let turns = simp (c.find_holder-holder.ensures, c.area.ensures) at c.set_control.ensures in
    quiet_serves g.D.Disk g.P.Peripheral old _ _ _ refl
    (λ part. common_given (machine g.P.Peripheral old part) c.args.number (Set c.args.property c.args.value.now)
    c.set_control.result (orders_in g.P.Peripheral old.devices) refl refl) old.totals.totals
    (g.met.D.Disk.only_now _) refl refl
    (λ left. refl) c.requires.sound c.requires.sound.devices
    (λ left failures so. plain_set _ _ _ _ (part_with old.totals.totals left failures) c.args.number
    c.set_control.new.control h c.args.property c.args.value.now c.set_control.result c.requires.in_range is plain
    turns)
