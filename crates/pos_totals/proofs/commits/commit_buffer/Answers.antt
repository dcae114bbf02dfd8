use Rattle.pos_totals.proofs.CommitLemmas.{applicable}
use Rattle.pos_totals.proofs.commits.commit_buffer.Goals as goal

pub commit_applicable-requires-clause-applicable : goal.commit_applicable-requires-clause-applicable
commit_applicable-requires-clause-applicable g c =
    let store = c.args.store.now in
    let plans = rw (c.in-Ok-Group.is, c.in-Ok-Group.field-0-is) at c.make_plan.ensures.plans in
    applicable store.state store.tail c.args.control c.make_plan.ensures.directory c.requires.sound plans.0 plans.1
