use Rattle.pos_counter.proofs.Common.{TotalsPart, ℕ, ◌<◌, ◌≤◌}
use Rattle.pos_counter.specs.Counters.{machine}
use Rattle.pos_counter.specs.NextEvent.{GivesNone}
use Rattle.pos_counter.proofs.counter.Counter.next_event.Given as goal

-- a delivery to a control before this one gives no event
abbrev pub invariant-loop-number : goal.invariant-loop-number
invariant-loop-number g l = (lower : ℕ) → l.fn.from ≤ lower → lower < l.number → (part : TotalsPart)
    → GivesNone (machine g.P.Peripheral l.fn.self part) lower
