use Rattle.pos_counter.proofs.Common.{Claim, List, Machine, Option, SFits, Some, Totals, [], ap, machine, part_with}
use Rattle.pos_counter.proofs.Common.{refl, settled, sym, to_z-of_z, w128, ℕ, ◌∙◌}
use Rattle.pos_counter.proofs.HardwareLemmas.{covered}
use Rattle.pos_counter.proofs.LiftLemmas.{decided_some, decided_weaker, kept_at}
use Rattle.pos_counter.proofs.OrderLemmas.{answered_common}
use Rattle.pos_counter.proofs.ServiceLemmas.{quiet_serves, stays_serves}
use Rattle.pos_counter.proofs.counter.Counter.claim.Goals as goal

pub claim-requires : goal.claim-requires
claim-requires g c =
    let part = part_with c.args.self.now.totals.totals [] 0 in
    covered c.args.number (c.requires.sound.machine part) (kept_at _ _ _ c.requires.in_range c.index-control.ensures)

pub returns-in-None : goal.returns-in-None
returns-in-None g c = stays_serves g.D.Disk g.P.Peripheral c.args.self.now _ _ _ refl
    (answered_common g.P.Peripheral c.args.self.now c.args.number (Claim c.args.timeout) refl)
    (g.met.D.Disk.only_now _) c.requires.sound refl c.requires.sound.devices (λ part.
    rw (kept_at _ _ _ c.requires.in_range c.index-control.ensures) (decided_some (rw (← c.in-None.ensures)) refl refl))

pub returns-in-Some-Totals : goal.returns-in-Some-Totals
returns-in-Some-Totals g c =
    let old = c.args.self.now in
    let opens = sym c.in-Some-Totals.ensures ∙ ap Some c.in-Some-Totals.field-0-is in
    let fits : SFits w128 c.args.timeout = c.ranges.timeout in
    let decided = rw opens at (simp to_z-of_z at c.claim_area.ensures.answer) in
    quiet_serves g.D.Disk g.P.Peripheral old _ _ _ refl
    (answered_common g.P.Peripheral c.args.self.now c.args.number (Claim c.args.timeout) refl)
    c.claim_area.new.totals.totals
    (g.met.D.Disk.only_now _) c.claim_area.ensures.disk refl
    (λ left. ap (λ (t : Totals). settled t.layout t.mode left) c.claim_area.ensures.rest) c.requires.sound
    c.requires.sound.devices
    (λ left failures so.
    let over = λ (t : Totals). machine g.P.Peripheral old (part_with t left failures) in
    rw (kept_at _ _ _ c.requires.in_range c.index-control.ensures, opens)
    (decided_weaker (λ done. (done.0, ap over done.1)) (ap over) decided))

pub returns-in-Some-At : goal.returns-in-Some-At
returns-in-Some-At g c =
    let old = c.args.self.now in
    let opens = sym c.in-Some-At.ensures ∙ ap Some c.in-Some-At.field-0-is in
    let fits : SFits w128 c.args.timeout = c.ranges.timeout in
    let decided = rw opens at (simp to_z-of_z at c.claim.ensures) in
    stays_serves g.D.Disk g.P.Peripheral old _ _ _ refl
    (answered_common g.P.Peripheral c.args.self.now c.args.number (Claim c.args.timeout) refl)
    (g.met.D.Disk.only_now _) c.requires.sound refl c.requires.sound.devices
    (λ part.
    let over =
    λ (claims : List (Option ℕ)). let o : Machine = record (machine g.P.Peripheral old part) { claims = claims } in o in
    rw (kept_at _ _ _ c.requires.in_range c.index-control.ensures, opens)
    (decided_weaker (λ done. (done.0, ap over done.1)) (ap over) decided))
