use Rattle.pos_sims.proofs.Common.{SameSize, ShiftsToEnd, shown_on, ◌*◌}
use Rattle.pos_sims.proofs.ring.Ring.scroll_down.Given as goal

abbrev pub invariant-loop : goal.invariant-loop
invariant-loop l = record {
  size : SameSize (shown_on l.fn.self) (shown_on l.self);
  moved : ShiftsToEnd (l.counter * l.fn.self.columns) (shown_on l.fn.self).cells (shown_on l.self).cells;
}
