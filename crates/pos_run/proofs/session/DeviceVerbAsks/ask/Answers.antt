use Rattle.pos_run.proofs.Common.{refl}
use Rattle.pos_run.proofs.ResponseLemmas.{snapshot_text, work_text}
use Rattle.pos_run.proofs.SessionLemmas.{asks_beside}
use Rattle.pos_run.proofs.session.DeviceVerbAsks.ask.Goals as goal

pub returns-in-Show-clause-asks : goal.returns-in-Show-clause-asks
returns-in-Show-clause-asks g c = asks_beside c.snapshot.ensures (rw c.in-Show.is refl) (rw c.in-Show.is refl)
    (rw c.of_snapshot.ensures (snapshot_text c.snapshot.result))

pub returns-in-Work-clause-asks : goal.returns-in-Work-clause-asks
returns-in-Work-clause-asks g c = asks_beside c.work.ensures.step (rw c.in-Work.is refl) (rw c.in-Work.is refl)
    (rw c.of_work.ensures (work_text c.work.result))

pub returns-in-Ok-clause-asks : goal.returns-in-Ok-clause-asks
returns-in-Ok-clause-asks g c = asks_beside c.in-Ok.ensures.step (rw c.in-Detach.is refl) (rw c.in-Detach.is refl) refl

pub returns-in-Err-clause-asks : goal.returns-in-Err-clause-asks
returns-in-Err-clause-asks g c =
    asks_beside c.in-Err.ensures.step (rw c.in-Detach.is refl) (rw c.in-Detach.is refl) refl
