-- What contracts see of a simulated peripheral that stands for a host's, and how it answers.
use Rattle.std.specs.Prelude.{◌≡◌, ◌≢◌, ◌+◌, ◌-◌, ◌^◌, ◌⊎◌, Bool, false, is_some, min, Result, Ok, Err}
use Rattle.std.specs.declared.alloc.Global.{Global}
use Rattle.pos_service.specs.declared.faults.NoMemory.{NoMemory}
use Rattle.pos_service.specs.declared.order.Order.{Order}
use Rattle.pos_service.specs.declared.order.Reply.{Reply}
use Rattle.pos_service.specs.declared.order.Reply.TheVariants as reply
use Rattle.pos_service.specs.declared.peripheral.Peripheral.{Ghosts}
use Rattle.pos_service.specs.Peripherals.{Asked, PeripheralState, counted}
use Rattle.pos_drive.specs.declared.courses.Course.TheVariants as course
use Rattle.pos_drive.specs.declared.driven.Driven.{Driven}
use Rattle.pos_drive.specs.Courses.{order_in}
use Rattle.pos_drive.specs.Previews.{Foretells}

-- what contracts see of it: the twin, with the count of the orders that came here, and each order that the host
-- couldn't do as a failure of the line
abbrev pub driven_state : {P : Type 0} → Ghosts P → Driven P → PeripheralState
driven_state peripherals driven = record (peripherals.state driven.twin) {
  failures = min ((peripherals.state driven.twin).failures + driven.faults) (2 ^ 64 - 1);
  orders = driven.asks;
}

-- a peripheral over this twin that has no host, and that was given no order
abbrev pub driven_of : {P : Type 0} → Global → P → Driven P
driven_of alloc twin = record { alloc = alloc; twin = twin; asks = 0; faults = 0; course = course.Free }

-- an order waits, whether the host has it or not
abbrev pub has_order : {P : Type 0} → Driven P → Bool
has_order driven = is_some (order_in driven.course)

-- It answers that there is no memory, and nothing has changed but the count of orders.
pub record PutsOff {P : Type 0} (old : Driven P) (outcome : Result Reply NoMemory) (new : Driven P) : Type 0 where
  pub no_memory : outcome ≡ Err (record {})
  pub same : new ≡ record old { asks = counted old.asks }

-- The order waits for the host from now on: there is one, no order waited for it before, and the twin would carry the
-- order out. Nothing was done.
pub record Keeps {P : Type 0} (peripherals : Ghosts P) (old : Driven P) (asked : Order)
    (outcome : Result Reply NoMemory) (new : Driven P) : Type 0 where
  pub hosted : old.course ≢ course.Free
  pub none_waited : has_order old ≡ false
  pub foretold : Foretells (peripherals.state old.twin).plant asked reply.Done
  pub no_memory : outcome ≡ Err (record {})
  pub same : new ≡ record old { asks = counted old.asks; course = course.Waits asked }

-- The twin was asked, and answers.
pub record Passes {P : Type 0} (peripherals : Ghosts P) (old : Driven P) (asked : Order)
    (outcome : Result Reply NoMemory) (new : Driven P) : Type 0 where
  pub twin : Asked (peripherals.state old.twin) asked outcome (peripherals.state new.twin)
  pub faults : new.faults ≡ old.faults

-- The host has reported that the order isn't done, and the twin would carry it out: the line has failed.
pub record Fails {P : Type 0} (peripherals : Ghosts P) (old : Driven P) (asked : Order)
    (outcome : Result Reply NoMemory) (new : Driven P) : Type 0 where
  pub not_done : old.course ≡ course.Reported asked false
  pub foretold : Foretells (peripherals.state old.twin).plant asked reply.Done
  pub fault : outcome ≡ Ok reply.LineFault
  pub same : new ≡ record old { asks = counted old.asks; faults = counted old.faults; course = course.Ready }

-- An answer is the twin's, or that the line has failed.
abbrev pub Answers : {P : Type 0} → Ghosts P → Driven P → Order → Result Reply NoMemory → Driven P → Type 0
Answers peripherals old asked outcome new =
    Passes peripherals old asked outcome new ⊎ Fails peripherals old asked outcome new
