use Rattle.pos_sims.proofs.Common.{arith}
use Rattle.pos_sims.proofs.RingLemmas.{feeds_back}
use Rattle.pos_sims.proofs.ring.Ring.feed_back.Goals as goal

pub returns-clause-moved : goal.returns-clause-moved
returns-clause-moved c =
    let was = c.args.self.now in
    grind (arith, feeds_back was.rows was.columns was.first c.above-self.result was.cells.items)
