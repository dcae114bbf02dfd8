-- The words of specifications and of the standard library that the proofs of this crate cite, passed on from one place.
pub use Rattle.std.proofs.Common.{All, Bool, IsSome, List, None, Option, Some, [], ap, append_assoc, arith, cond, drop}
pub use Rattle.std.proofs.Common.{false, get_or, length, length-append, length-drop, map, not, option_map, refl, set}
pub use Rattle.std.proofs.Common.{subst, suc, take, true, ℕ, ◌++◌, ◌+◌, ◌-◌, ◌<◌, ◌==◌, ◌∙◌, ◌∷◌, ◌≡◌, ◌≢◌, ◌≤◌}
pub use Rattle.std.proofs.Math.Seq.{drop-nil, take-add, take-nil}
pub use Rattle.std.proofs.lemmas.Bool.Decides.{nat_tests}
pub use Rattle.std.proofs.lemmas.List.{append-nil, drop-append-le, drop-drop, drop_all, drop_more, get_or-map}
pub use Rattle.std.proofs.lemmas.List.{length-map, map-append, map-set, set-get_or, take-append-drop, take-append-le}
pub use Rattle.std.proofs.lemmas.List.{take_all, take_more_set}
pub use Rattle.std.proofs.lemmas.List.Elements.{All-append, All-cons, All-drop, All-head, All-nil, All-tail, All-take}
pub use Rattle.std.proofs.lemmas.List.Elements.{All-weaker, filter-append}
pub use Rattle.std.specs.List.{count_by, filter}
pub use Rattle.std.specs.VecDeque.{deque_capacity, deque_len}
pub use Rattle.pos_events.specs.QueueParts.{Fits, all_before, before_first, events_in, first_immediate, is_error, lead}
pub use Rattle.pos_events.specs.QueueParts.{list_of, one_less, event_of_immediate, immediate_events, waiting_in, weave}
pub use Rattle.pos_events.specs.QueueParts.{without_errors, without_first}
pub use Rattle.pos_events.specs.declared.immediate.PlacedEvent.{PlacedEvent}
pub use Rattle.pos_events.specs.declared.immediate_event.ImmediateEvent.{ImmediateEvent}
pub use Rattle.pos_service.specs.Events.{Data, Enqueued, EventList, after_reply, delivered, input_cleared, input_error}
pub use Rattle.pos_service.specs.Events.{input_failed, is_data, is_output_error, is_waiting, left_by, output_cleared}
pub use Rattle.pos_service.specs.Events.{scanned, split, with_input_data}
pub use Rattle.pos_service.specs.declared.input.Scan.{Scan}
