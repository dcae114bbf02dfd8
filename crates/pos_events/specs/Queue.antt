-- A queue of events as contracts see it.
use Rattle.std.specs.Prelude.{ℕ}
use Rattle.pos_service.specs.Events.{EventList, Enqueued, event_of, scan_of}
use Rattle.pos_events.specs.declared.queue.Delivery.{Delivery}

-- the list of events, and how many more there is room for
pub record Queue : Type 0 where
  pub list : EventList
  pub spare : ℕ

-- an enqueued event as it is delivered
abbrev pub delivery_of : Enqueued → Delivery
delivery_of event = record { event = event_of event; scan = scan_of event }
