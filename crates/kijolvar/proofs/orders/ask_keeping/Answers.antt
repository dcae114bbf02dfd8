use Rattle.std.proofs.lemmas.Result.{err_from_is_err_and}
use Rattle.kijolvar.proofs.OrderLemmas.{asks_twin, twin_wants}
use Rattle.kijolvar.proofs.orders.ask_keeping.Goals as goal

pub returns-in_err-reply-clause-asks : goal.returns-in_err-reply-clause-asks
returns-in_err-reply-clause-asks c =
    let p = err_from_is_err_and c.from_residual-in_err-reply.result c.from_residual-in_err-reply.ensures.1 in
    rw p.1 (twin_wants _ _ _ _ (asks_twin _ _ _ _ c.in_err-reply.ensures.asked c.in_err-reply.ensures.keeps
    c.in_err-reply.ensures.settles))

pub returns-clause-asks : goal.returns-clause-asks
returns-clause-asks c = asks_twin _ _ _ _ c.in_ok-reply.ensures.asked c.in_ok-reply.ensures.keeps
    c.in_ok-reply.ensures.settles
