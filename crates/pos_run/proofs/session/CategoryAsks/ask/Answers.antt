use Rattle.pos_run.proofs.Common.{Err, ap, is_some, refl, sym, ◌∙◌}
use Rattle.pos_run.proofs.ResponseLemmas.{control_text, unmade}
use Rattle.pos_run.proofs.SessionLemmas.{asks_step}
use Rattle.pos_run.proofs.session.CategoryAsks.ask.Goals as goal

pub returns-in-Ok-control-clause-asks : goal.returns-in-Ok-control-clause-asks
returns-in-Ok-control-clause-asks g c =
    let unknown = sym (ap is_some c.find.ensures) ∙ (sym c.is_some.ensures ∙ c.if-is_some.false) in
    asks_step c.in-Ok-control.ensures.step (rw unknown refl)
    (rw (c.add.ensures, c.in-Ok.ensures.names, c.in-Ok.ensures.copy) refl) refl

pub returns-in-Err-clause-asks : goal.returns-in-Err-clause-asks
returns-in-Err-clause-asks g c =
    let unknown = sym (ap is_some c.find.ensures) ∙ (sym c.is_some.ensures ∙ c.if-is_some.false) in
    asks_step c.in-Err.ensures.step (rw unknown refl)
    (rw c.in-Ok.ensures.names (sym (unmade _ c.args.name.now c.args.self.now c.in-Err.fault)))
    (rw c.of_control.ensures (control_text (Err c.in-Err.fault)))
