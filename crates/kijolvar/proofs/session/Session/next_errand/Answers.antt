use Rattle.kijolvar.proofs.KeptLemmas.{next_keeps}
use Rattle.kijolvar.specs.Tills.{settlement_of}
use Rattle.kijolvar.proofs.session.Session.next_errand.Goals as goal

pub invariant_of-self : goal.invariant_of-self
invariant_of-self c =
    let old = c.self.inside.till_state in
    next_keeps (settlement_of old) _ _ _ _ _ _ _ _ c.next_errand.ensures c.self.invariant
