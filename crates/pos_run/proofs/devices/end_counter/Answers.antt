use Rattle.pos_run.proofs.devices.end_counter.Goals as goal

pub returns-clause-at_rest : goal.returns-clause-at_rest
returns-clause-at_rest g c = rw c.end.ensures c.shutdown.ensures.at_rest
