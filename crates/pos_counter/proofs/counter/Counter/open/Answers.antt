use Rattle.pos_counter.proofs.Common.{KeptControl, Open, ap, found_under, machine, refl, ◌∙◌}
use Rattle.pos_counter.proofs.LiftLemmas.{decided_weaker, kept_at, kept_machine, kept_same, set_machine}
use Rattle.pos_counter.proofs.OrderLemmas.{answered_common}
use Rattle.pos_counter.proofs.ServiceLemmas.{stays_serves}
use Rattle.pos_counter.proofs.counter.Counter.open.Goals as goal

pub returns : goal.returns
returns g c =
    let old = c.args.self.now in
    let n = c.args.number in
    let h = c.index_mut.result.now in
    let is = c.index_mut.ensures.value in
    let same = kept_same old.controls.items h c.requires.in_range c.index.ensures is in
    let category = c.category.ensures ∙ ap (λ (kept : KeptControl). kept.control.category) same in
    stays_serves g.D.Disk g.P.Peripheral old _ _ _ refl
    (answered_common g.P.Peripheral old n (Open c.args.name.now) refl)
    (g.met.D.Disk.only_now _) c.requires.sound refl c.requires.sound.devices
    (λ part.
    let found = c.find_target-found.ensures part
    ∙ ap (λ k. found_under (machine g.P.Peripheral old part) k c.args.name.now) category in
    rw (kept_at old.controls.items n h c.requires.in_range is)
    (decided_weaker (λ done. (done.0, set_machine _ _ _ _ part n c.open.new.self done.1))
    (λ same. kept_machine _ _ _ _ part n same is) (rw found at c.open.ensures)))
