-- Orders, and what is told of them.
use Rattle.kijolvar.proofs.Common.{Err, ap, inl, refl, ◌∙◌}
use Rattle.std.proofs.Common.{inr}
use Rattle.std.specs.Prelude.{Bool, MatchResult, Ok, Result, false, is_some, true, ◌≡◌}
use Rattle.pos_drive.specs.Courses.{order_in, settled_course}
use Rattle.pos_drive.specs.DrivenPeripherals.{Keeps, has_order}
use Rattle.pos_drive.specs.declared.courses.Course.TheVariants.{Free}
use Rattle.pos_drive.specs.declared.driven.Driven.{Driven}
use Rattle.pos_run.specs.Simulations.{wrapped_devices}
use Rattle.pos_run.specs.declared.wrapped.Wrapped.{Wrapped}
use Rattle.pos_service.specs.Peripherals.{Asked, PeripheralState, order_fits}
use Rattle.pos_service.specs.declared.faults.NoMemory.{NoMemory}
use Rattle.pos_service.specs.declared.order.Order.{Order}
use Rattle.pos_service.specs.declared.order.Reply.{Reply}
use Rattle.kijolvar.specs.Orders.{AsksTwin, twin_state}

-- want of memory is the same, whoever tells it
pub any_want : {old new : PeripheralState} {asked : Order} {one : NoMemory} (other : NoMemory)
    → Asked old asked (Err one) new → Asked old asked (Err other) new
any_want other a = record { kind = a.kind; unparked = a.unparked; orders = a.orders; answer = a.answer }

module _ (old new : Driven Wrapped) (asked : Order) where
  -- what is settled of a driven peripheral once it answered an order
  abbrev Settles : Result Reply NoMemory → Type 0
  Settles outcome = MatchResult outcome (λ said. new.course ≡ settled_course old.course)
      (λ want. has_order new ≡ false → new.course ≡ old.course)

  -- an order doesn't make a peripheral wait for a host that doesn't drive it
  pub still_free : (outcome : Result Reply NoMemory) → old.course ≡ Free
      → (has_order old ≡ false → has_order new ≡ true → Keeps wrapped_devices old asked outcome new) → Settles outcome
      → new.course ≡ Free
  still_free (Ok said) free keeps settles = settles ∙ ap settled_course free
  still_free (Err want) free keeps settles = by (has_order new) refl
    where
      by : (waits : Bool) → has_order new ≡ waits → new.course ≡ Free
      by false none = settles none ∙ free
      by true some = absurd ((keeps (ap (λ course. is_some (order_in course)) free) some).hosted free)

  -- the simulated peripheral of a device was asked
  pub asks_twin : (outcome : Result Reply NoMemory)
      → ((twin_state old).is_parked ≡ false → order_fits (twin_state old).kind asked ≡ true
      → Asked (twin_state old) asked outcome (twin_state new))
      → ((twin_state old).is_parked ≡ false → order_fits (twin_state old).kind asked ≡ true
      → has_order old ≡ false → has_order new ≡ true → Keeps wrapped_devices old asked outcome new)
      → Settles outcome → AsksTwin old asked outcome new
  asks_twin outcome gives keeps settles =
      inl (λ served fits. (gives served fits, λ free. still_free outcome free (keeps served fits) settles))

  -- want of memory is the same, whoever tells it
  pub twin_wants : {one : NoMemory} (other : NoMemory) → AsksTwin old asked (Err one) new
      → AsksTwin old asked (Err other) new
  twin_wants other (inl asks) = inl (λ served fits. (any_want other (asks served fits).0, (asks served fits).1))
  twin_wants other (inr same) = inr same
