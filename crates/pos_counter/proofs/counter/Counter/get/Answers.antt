use Rattle.pos_counter.proofs.Common.{machine, part_with}
use Rattle.pos_counter.proofs.LiftLemmas.{get_step, kept_at}
use Rattle.pos_counter.proofs.counter.Counter.get.Goals as goal

pub returns : goal.returns
returns g c = λ left failures.
    let old = c.args.self.now in
    let n = c.args.number in
    let h = c.index-control.result.now in
    let own = rw (c.find_holder-holder.ensures, c.area.ensures) at c.is_own.ensures in
    let context = c.find_context-context.ensures left failures own in
    get_step (machine g.P.Peripheral old (part_with old.totals.totals left failures)) n c.args.property c.get.result
    (kept_at old.controls.items n h c.requires c.index-control.ensures) (simp
    (context, c.find_holder-holder.ensures, c.area.ensures) at c.get.ensures)
