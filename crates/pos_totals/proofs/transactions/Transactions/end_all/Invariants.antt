use Rattle.pos_totals.proofs.Common.{drop, take, without_transactions, ◌++◌, ◌≡◌}
use Rattle.pos_totals.proofs.transactions.Transactions.end_all.Given as goal

-- the transactions before the place have ended
abbrev pub invariant-loop-place : goal.invariant-loop-place
invariant-loop-place l = l.place-items
    ≡ without_transactions (take l.place-index l.fn.self) ++ drop l.place-index l.fn.self
