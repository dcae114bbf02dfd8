use Rattle.pos_totals.proofs.RecoveryLemmas.{ready_recovers}
use Rattle.pos_totals.proofs.recoveries.recover.Goals as goal

pub returns-in-Ready-clause-recovers : goal.returns-in-Ready-clause-recovers
returns-in-Ready-clause-recovers g c =
    let store = c.args.store.now in
    ready_recovers store.state store.tail c.requires.sound c.in-Ready.ensures c.leaves_its_files.ensures
