use Rattle.pos_run.proofs.Common.{refl}
use Rattle.pos_run.proofs.SessionLemmas.{asks_beside}
use Rattle.pos_run.proofs.session.ErrorReplyAsks.ask.Goals as goal

pub returns-in-Some-clause-asks : goal.returns-in-Some-clause-asks
returns-in-Some-clause-asks g c = asks_beside c.deliver.ensures.step (rw (← c.in-Some.ensures) refl) refl refl
