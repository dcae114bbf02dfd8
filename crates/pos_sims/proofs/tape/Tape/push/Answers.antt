use Rattle.pos_sims.proofs.Common.{arith, drop-append-le}
use Rattle.pos_sims.proofs.TapeLemmas.{items_of_more}
use Rattle.pos_sims.proofs.tape.Tape.push.Goals as goal

pub returns-in-Ok-clause-ok : goal.returns-in-Ok-clause-ok
returns-in-Ok-clause-ok c = grind (arith, items_of_more, drop-append-le)
