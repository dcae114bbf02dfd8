use Rattle.pos_profile.proofs.Common.{append-nil, arith}
use Rattle.pos_profile.proofs.RegistryLemmas.{planned_more}
use Rattle.pos_profile.proofs.plans.plan.Goals as goal

pub loop-entry-preserved-in_default : goal.loop-entry-preserved-in_default
loop-entry-preserved-in_default c = grind (
  arith,
  append-nil,
  planned_more c.args.entries.now c.loop-entry.entry-index c.entry-item.result c.loop-entry-test.true
      c.entry-item.is,
)

pub loop-entry-preserved : goal.loop-entry-preserved
loop-entry-preserved c = grind (
  arith,
  planned_more c.args.entries.now c.loop-entry.entry-index c.entry-item.result c.loop-entry-test.true
      c.entry-item.is,
)
