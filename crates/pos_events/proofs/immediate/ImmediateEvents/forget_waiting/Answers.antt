use Rattle.pos_events.proofs.Common.{arith, length, ◌<◌}
use Rattle.pos_events.proofs.ImmediateLemmas.{none_more, tolds_set}
use Rattle.pos_events.proofs.immediate.ImmediateEvents.forget_waiting.Goals as goal

pub loop-i-preserved : goal.loop-i-preserved
loop-i-preserved c =
    let items = c.loop-i.self.events.items in
    let within : c.loop-i.i < length items = omega (arith, c.loop-i.self.events.ok) in
    grind (arith, tolds_set items c.loop-i.i c.index_mut.result.now, none_more items c.loop-i.i)
