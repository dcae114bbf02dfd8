-- What is simulated for an entry, in its wrappers, begins as what is simulated without them.
use Rattle.pos_run.proofs.Common.{IsDeviceFor, Some, subst}
use Rattle.pos_run.proofs.ProfileLemmas.{simulated_begins}
use Rattle.pos_run.proofs.simulation.simulate.Goals as goal

pub returns-clause-state : goal.returns-clause-state
returns-clause-state c =
    let device : IsDeviceFor c.args.entry.now (Some c.in-Some.device) =
    subst (IsDeviceFor c.args.entry.now) c.in-Some.is c.in_ok-device.ensures in
    simulated_begins c.args.entry.now c.in-Some.device c.wrap.result device c.wrap.ensures
