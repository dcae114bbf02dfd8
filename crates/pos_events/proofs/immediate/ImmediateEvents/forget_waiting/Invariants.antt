use Rattle.pos_events.proofs.Common.{all_before, deque_capacity, deque_len, take, immediate_events, ◌≡◌}
use Rattle.pos_events.proofs.immediate.ImmediateEvents.forget_waiting.Given as goal

-- the events are as they were, and before the first ones nothing waits
abbrev pub invariant-loop-i : goal.invariant-loop-i
invariant-loop-i l = record {
  same : immediate_events l.self.events.items ≡ immediate_events l.initial.self.events.items;
  none : all_before (take l.i l.self.events.items) ≡ 0;
  len : deque_len l.self.events ≡ deque_len l.initial.self.events;
  capacity : deque_capacity l.self.events ≡ deque_capacity l.initial.self.events;
}
