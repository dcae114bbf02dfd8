use Rattle.pos_counter.proofs.Common.{rules}
use Rattle.pos_counter.proofs.DeviceListLemmas.{done_there}
use Rattle.pos_counter.proofs.inputs.input_there.Goals as goal

pub returns-clause-done : goal.returns-clause-done
returns-clause-done g c = search (rules, done_there, c.serving-peripheral.ensures.devices)
