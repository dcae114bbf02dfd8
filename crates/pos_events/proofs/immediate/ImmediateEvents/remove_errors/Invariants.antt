use Rattle.pos_events.proofs.Common.{deque_capacity, deque_len, drop, ◌≡◌, ◌≤◌}
use Rattle.pos_events.proofs.ImmediateLemmas.{Removing}
use Rattle.pos_events.proofs.immediate.ImmediateEvents.remove_errors.Given as goal

-- the first ones have been looked at, and those of them that stay stand behind the rest
abbrev pub invariant-loop : goal.invariant-loop
invariant-loop l = record {
  removing : Removing l.initial.self.events.items
      (drop l.counter l.initial.self.events.items) l.before l.self.events.items;
  len : deque_len l.self.events ≤ deque_len l.initial.self.events;
  capacity : deque_capacity l.self.events ≡ deque_capacity l.initial.self.events;
  behind : l.self.behind ≡ l.initial.self.behind;
}
