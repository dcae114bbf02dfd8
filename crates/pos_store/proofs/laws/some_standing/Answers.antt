use Rattle.pos_store.proofs.DecisionLemmas.{some_standing}
use Rattle.pos_store.proofs.laws.some_standing.Goals as goal

pub returns : goal.returns
returns c = some_standing
