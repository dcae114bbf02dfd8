use Rattle.pos_sims.proofs.Common.{arith, drop_all, take_rest}
use Rattle.pos_sims.proofs.TapeLemmas.{items_append}
use Rattle.pos_sims.proofs.tape.Tape.end_line.Goals as goal

pub returns-in-Ok-clause-ok : goal.returns-in-Ok-clause-ok
returns-in-Ok-clause-ok c = grind (arith, items_append, take_rest, drop_all)
