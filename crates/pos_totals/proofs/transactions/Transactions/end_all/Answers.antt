use Rattle.pos_totals.proofs.Common.{Change, List, None, Option, ap, arith, length, map_over_more}
use Rattle.pos_totals.proofs.transactions.Transactions.end_all.Goals as goal

pub loop-place-preserved : goal.loop-place-preserved
loop-place-preserved c = map_over_more (λ (transaction : Option (List Change)). None) c.args.self.now
    c.loop-place.place-items c.loop-place.place-index c.place-item.result (omega (
      arith,
      ap (λ (ts : List (Option (List Change))). length ts) c.self.view_is,
    )) c.loop-place.invariant c.place-item.is
