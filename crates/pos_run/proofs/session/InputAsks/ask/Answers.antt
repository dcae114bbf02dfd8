use Rattle.pos_run.proofs.Common.{refl}
use Rattle.pos_run.proofs.ResponseLemmas.{input_text}
use Rattle.pos_run.proofs.SessionLemmas.{asks_beside}
use Rattle.pos_run.proofs.session.InputAsks.ask.Goals as goal

pub returns-clause-asks : goal.returns-clause-asks
returns-clause-asks g c = asks_beside c.input.ensures.step refl refl (rw c.of_input.ensures (input_text c.input.result))
