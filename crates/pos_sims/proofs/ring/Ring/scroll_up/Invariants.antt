use Rattle.pos_sims.proofs.Common.{SameSize, ShiftsToFront, shown_on, ◌*◌}
use Rattle.pos_sims.proofs.ring.Ring.scroll_up.Given as goal

abbrev pub invariant-loop : goal.invariant-loop
invariant-loop l = record {
  size : SameSize (shown_on l.fn.self) (shown_on l.self);
  moved : ShiftsToFront (l.counter * l.fn.self.columns) (shown_on l.fn.self).cells (shown_on l.self).cells;
}
