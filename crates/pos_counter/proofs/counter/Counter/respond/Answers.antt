use Rattle.pos_counter.proofs.ResponseLemmas.{plain_control, plain_input, plain_snapshot, plain_work}
use Rattle.pos_counter.proofs.ServiceLemmas.{beside_is_step}
use Rattle.pos_counter.proofs.counter.Counter.respond.Goals as goal

pub returns-in-NewControl-clause-step : goal.returns-in-NewControl-clause-step
returns-in-NewControl-clause-step g c = rw (
  c.in-NewControl.is,
  c.of_control.ensures,
  (plain_control g.P.Peripheral c.control.result).same,
) c.control.ensures.step

pub returns-in-InputTo-clause-step : goal.returns-in-InputTo-clause-step
returns-in-InputTo-clause-step g c = search (
  c.in-InputTo.is,
  c.of_input.ensures,
  ((plain_input g.P.Peripheral c.input.result).same),
  ← c.as_slice.ensures,
  beside_is_step,
  g.met.D.Disk.only_now,
)

pub returns-in-WorkOn-clause-step : goal.returns-in-WorkOn-clause-step
returns-in-WorkOn-clause-step g c = search (
  c.in-WorkOn.is,
  c.of_work.ensures,
  ((plain_work g.P.Peripheral c.work.result).same),
  ← c.as_slice-in-WorkOn.ensures,
  beside_is_step,
  g.met.D.Disk.only_now,
)

pub returns-in-Deliver-clause-step : goal.returns-in-Deliver-clause-step
returns-in-Deliver-clause-step g c = search (c.in-Deliver.is, beside_is_step, g.met.D.Disk.only_now)

pub returns-in-Snapshot-clause-step : goal.returns-in-Snapshot-clause-step
returns-in-Snapshot-clause-step g c = rw (
  c.in-Snapshot.is,
  c.of_snapshot.ensures,
  (plain_snapshot g.P.Peripheral c.snapshot.result).same,
  ← c.as_slice-in-Snapshot.ensures,
) (beside_is_step g.D.Disk g.P.Peripheral _ _ _ _ (g.met.D.Disk.only_now _) c.snapshot.ensures)
