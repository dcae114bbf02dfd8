use Rattle.pos_counter.proofs.Common.{arith, devices_in, sym, ◌∙◌}
use Rattle.pos_counter.proofs.NextEventLemmas.{each_all, each_more, kept_none, none_past}
use Rattle.pos_counter.specs.Counters.{machine}
use Rattle.pos_counter.specs.NextEvent.{GivesNone}
use Rattle.pos_counter.proofs.counter.Counter.next_event.Goals as goal

pub loop-number-preserved : goal.loop-number-preserved
loop-number-preserved g c lower above below part =
    let old = c.args.self.now in
    let number = c.loop-number.number in
    each_more (GivesNone (machine g.P.Peripheral old part)) number
    (λ l a b. c.loop-number.invariant l a b part)
    (kept_none old.controls.items old.claims (devices_in g.P.Peripheral old.devices) old.totals_name part number
    (omega (arith, c.loop-number-test.true, c.len-number-end.ensures, old.controls.ok.0)) c.index.ensures
    (sym c.has_deliverable.ensures ∙ c.if-has_deliverable.false)) lower above below

pub returns : goal.returns
returns g c part number above =
    let old = c.args.self.now in
    each_all (GivesNone (machine g.P.Peripheral old part))
    (λ l a b. c.loop-number.invariant l a b part) c.loop-number-test.false
    (λ later past. none_past old.controls.items old.claims (devices_in g.P.Peripheral old.devices) old.totals_name
    part later (omega (arith, past, c.len-number-end.ensures, old.controls.ok.0))) number above
