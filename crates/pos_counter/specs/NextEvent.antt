-- Which control has an event that may be delivered.
use Rattle.std.specs.Prelude.{◌≡◌, ℕ, ◌<◌, ◌≤◌, Option, Some, None, IsSome}
use Rattle.pos_service.specs.declared.event.ErrorReply.{ErrorReply}
use Rattle.pos_service.specs.declared.event.Event.{Event}
use Rattle.pos_counter.specs.Machine.{Machine}
use Rattle.pos_counter.specs.Steps.{Step, Deliver, Delivered}

-- each delivery to the control of this number, whatever the reply, gives an event
abbrev pub GivesEvent : Machine → ℕ → Type 0
GivesEvent machine number = (reply : ErrorReply) (event : Option Event) (after : Machine)
    → Step machine (Deliver number reply) (Delivered event) after → IsSome event

-- each delivery to the control of this number gives none
abbrev pub GivesNone : Machine → ℕ → Type 0
GivesNone machine number = (reply : ErrorReply) (event : Option Event) (after : Machine)
    → Step machine (Deliver number reply) (Delivered event) after → event ≡ None

-- A delivery to the control of this number gives an event. From a number on, none to a control before it does.
pub record IsFirstToGive (machine : Machine) (from number : ℕ) : Type 0 where
  pub within : from ≤ number
  pub gives : GivesEvent machine number
  pub none_before : (lower : ℕ) → from ≤ lower → lower < number → GivesNone machine lower

-- the lowest number, from one on, of a control to which a delivery gives an event; none only where no delivery to a
-- control from that number on gives one
abbrev pub IsNextEvent : Machine → ℕ → Option ℕ → Type 0
IsNextEvent machine from None = (number : ℕ) → from ≤ number → GivesNone machine number
IsNextEvent machine from (Some number) = IsFirstToGive machine from number
