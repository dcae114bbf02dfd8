-- What passes between a counter and its host.
use Rattle.std.specs.Prelude.{◌≡◌, Bool, true, false}
use Rattle.pos_drive.specs.declared.courses.Progress.{Progress}
use Rattle.pos_drive.specs.declared.courses.Progress.TheVariants as progress
use Rattle.pos_service.specs.Peripherals.{counted}
use Rattle.pos_counter.specs.declared.host_tally.HostTally.{HostTally}

-- the orders of a device wait for the host from now on, if there is such a device
abbrev pub drives : Bool → HostTally → HostTally
drives true tally = record tally { driven = counted tally.driven }
drives false tally = tally

-- an order is handed out to a host that is so far with it: it is given if it waits
abbrev pub gives : Progress → HostTally → HostTally
gives progress.Waits tally = record tally { given = counted tally.given }
gives other tally = tally

-- one report more
abbrev pub reported : Bool → HostTally → HostTally
reported true tally = record tally { done = counted tally.done }
reported false tally = record tally { not_done = counted tally.not_done }

-- a host that is so far with an order reports of it: there is a report if it has the order
abbrev pub hears : Bool → Progress → HostTally → HostTally
hears is_done progress.HandedOut tally = reported is_done tally
hears is_done other tally = tally

-- orders are settled where the host is so far with the first: it is forgotten if it is pending
abbrev pub forgets : Progress → HostTally → HostTally
forgets progress.Free tally = tally
forgets progress.Ready tally = tally
forgets pending tally = record tally { forgotten = counted tally.forgotten }

-- In between, the host was given no device and no order, and reported nothing.
pub record LeavesHostAlone (old new : HostTally) : Type 0 where
  pub driven : new.driven ≡ old.driven
  pub given : new.given ≡ old.given
  pub done : new.done ≡ old.done
  pub not_done : new.not_done ≡ old.not_done
