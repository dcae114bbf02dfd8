use Rattle.pos_store.proofs.Common.{sym, ◌∙◌}
use Rattle.pos_store.proofs.RecordLemmas.{broken_step}
use Rattle.pos_store.proofs.recoveries.apply_text.Goals as goal

pub returns-clause-damaged : goal.returns-clause-damaged
returns-clause-damaged c told = broken_step (Unit {0}) _ c.in-Ok.group c.in-Err-apply_group.fault c.in-Ok.ensures.0
    c.in-Ok.ensures.1 c.in-Err-apply_group.ensures.applied (sym c.fault_of_group.ensures ∙ told)
