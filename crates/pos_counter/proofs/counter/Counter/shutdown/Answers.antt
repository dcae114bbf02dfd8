use Rattle.pos_counter.proofs.Common.{rules}
use Rattle.pos_counter.proofs.DeviceListLemmas.{devices_stay}
use Rattle.pos_counter.proofs.counter.Counter.shutdown.Goals as goal

pub returns-clause-entries : goal.returns-clause-entries
returns-clause-entries g c = search (rules, devices_stay, c.into_entries.ensures.entries)

pub returns-clause-at_rest : goal.returns-clause-at_rest
returns-clause-at_rest g c = rw c.into_disk.ensures.disk c.into_disk.ensures.at_rest
