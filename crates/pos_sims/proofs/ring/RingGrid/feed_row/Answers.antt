use Rattle.pos_sims.proofs.Common.{arith}
use Rattle.pos_sims.proofs.RingLemmas.{feeds}
use Rattle.pos_sims.proofs.ring.RingGrid.feed_row.Goals as goal

pub returns-clause-moved : goal.returns-clause-moved
returns-clause-moved c =
    let was = c.args.self.now in
    grind (arith, feeds was.rows was.columns was.first c.below-self.result was.cells.items)
