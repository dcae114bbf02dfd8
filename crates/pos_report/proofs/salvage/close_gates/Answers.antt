use Rattle.std.proofs.Common.{Ok, arith, false, subst}
use Rattle.pos_report.specs.Salvage.{Steps}
use Rattle.pos_report.proofs.GateLemmas.{fewer_gates, goes_on, same_length}
use Rattle.pos_report.proofs.salvage.close_gates.Goals.{Then-not-branch}
use Rattle.pos_report.proofs.salvage.close_gates.Goals as goal

-- the step that closed a gate
took : (c : Then-not-branch)
    → Steps c.loop.copy.items c.loop.lost.items (Ok false) c.step.new.copy.items c.step.new.lost.items
took c = subst (λ b. Steps c.loop.copy.items c.loop.lost.items (Ok b) c.step.new.copy.items c.step.new.lost.items)
    c.if-not-branch.true c.in_ok-step.ensures

pub loop-preserved : goal.loop-preserved
loop-preserved c =
    let steps = took (goal.at.loop-preserved c).Then-not-branch in
    let was = c.loop.invariant in
    let long = same_length _ _ _ _ steps in
    record {
      closed = goes_on _ _ _ _ _ _ was.closed steps;
      whole = omega (arith, was.whole, long);
    }

pub loop-smaller : goal.loop-smaller
loop-smaller c = fewer_gates _ _ _ _ (took (goal.at.loop-smaller c).Then-not-branch)
