-- How many orders the peripherals of a counter were given.
use Rattle.pos_counter.proofs.Common.{Action, AllByRecursion, Answer, Answered, At, Attach, Attaches, Bool, Call}
use Rattle.pos_counter.proofs.Common.{CallOf, Category, Changes, Control, Counter, Detach, Detaches, Done, Empty, Err}
use Rattle.pos_counter.proofs.Common.{Ghosts, Gives, GivesOrders, IsServed, Queues, answered, attached, detached}
use Rattle.pos_counter.proofs.Common.{hardware_of, machine, set}
use Rattle.pos_counter.proofs.Common.{KeptControl, Kind, List, MatchOption, MatchOption-at_some, Machine}
use Rattle.pos_counter.proofs.Common.{NoMemory, None, Ok, Option, PeripheralState, Registered, Result, Row, Some}
use Rattle.pos_counter.proofs.Common.{TotalsPart, [], ap, ap₂, arith, controls_of, device_action, device_rows}
use Rattle.pos_counter.proofs.Common.{devices_of, false, first_refusal, inl, inr, is_common, is_some, kind_of}
use Rattle.pos_counter.proofs.Common.{machine_with, open_place, option_map, refl, refusals, slice_get, standing_at, suc}
use Rattle.pos_counter.proofs.Common.{sym, true, with_peripheral, zero, ℕ, ◌∙◌, ◌∷◌, ◌≡◌, ◌⊎◌}
use Rattle.std.specs.Prelude.{if◌then◌else◌}
use Rattle.pos_common.specs.OwnCalls.{OwnOrders, own_refusals}
use Rattle.pos_printer.specs.PrinterCalls.{OrdersOfWork}
use Rattle.pos_service.specs.Actions.{OrdersBy}
use Rattle.pos_service.specs.Peripherals.{counted}
use Rattle.pos_service.specs.declared.answer.WorkResult.TheVariants as worked
use Rattle.pos_service.specs.declared.answer.WorkResult.{WorkResult}
use Rattle.pos_service.specs.declared.faults.AttachFault.TheVariants as attach
use Rattle.pos_service.specs.declared.faults.AttachFault.{AttachFault}
use Rattle.pos_service.specs.declared.faults.DetachFault.TheVariants as detach
use Rattle.pos_service.specs.declared.faults.DetachFault.{DetachFault}
use Rattle.pos_counter.specs.Orders.{CountsAt, LeavesOthers, OrdersAt, OrdersOfCall, OrdersOfControl, OrdersOfStep}
use Rattle.pos_counter.specs.Orders.{OrdersOfWorkAt, asked_place, given_at, gives_order, one_more, orders_in, orders_of}
use Rattle.pos_counter.proofs.DeviceListLemmas.{found_first, registered_there, served_at}
use Rattle.pos_counter.proofs.HardwareLemmas.{own_call}

-- ---- what a peripheral counts

-- how many orders a peripheral was given
abbrev count_of : Option PeripheralState → Option ℕ
count_of o = option_map (λ (state : PeripheralState). state.orders) o

-- a peripheral that was given no order leaves the counts
same_orders : (list : List Registered) (place : ℕ) (was now : PeripheralState) → standing_at list place ≡ Some was
    → now.orders ≡ was.orders → orders_of (with_peripheral list place (Some now)) ≡ orders_of list
same_orders [] place was now stood same = refl
same_orders (d ∷ list) zero was now stood same =
    ap (λ n. Some n ∷ orders_of list) same ∙ sym (ap (λ o. count_of o ∷ orders_of list) stood)
same_orders (d ∷ list) (suc place) was now stood same =
    ap (λ os. count_of d.peripheral ∷ os) (same_orders list place was now stood same)

-- one that was given one order counts one more
more_orders : (list : List Registered) (place : ℕ) (was now : PeripheralState) → standing_at list place ≡ Some was
    → now.orders ≡ counted was.orders
    → orders_of (with_peripheral list place (Some now)) ≡ one_more place (orders_of list)
more_orders [] place was now stood more = refl
more_orders (d ∷ list) zero was now stood more = ap (λ n. Some n ∷ orders_of list) more
    ∙ sym (ap (λ o. option_map counted (count_of o) ∷ orders_of list) stood)
more_orders (d ∷ list) (suc place) was now stood more =
    ap (λ os. count_of d.peripheral ∷ os) (more_orders list place was now stood more)

-- another peripheral at a place, or none, leaves the counts of all others
other_orders : (list : List Registered) (place : ℕ) (x : Option PeripheralState)
    → orders_of (with_peripheral list place x) ≡ set (orders_of list) place (count_of x)
other_orders [] place x = refl
other_orders (d ∷ list) zero x = refl
other_orders (d ∷ list) (suc place) x = ap (λ os. count_of d.peripheral ∷ os) (other_orders list place x)

pub leaves_others : {o : Option ℕ} (list : List Registered) {new : List Registered} (place : ℕ)
    (x : Option PeripheralState) → o ≡ Some place → new ≡ with_peripheral list place x
    → LeavesOthers o (orders_of list) (orders_of new)
leaves_others list place x at is = rw at (count_of x, ap orders_of is ∙ other_orders list place x)

-- an input gives no order
pub input_orders : (list new : List Registered) (place : ℕ) → CountsAt list place (λ k was now. now ≡ was) new
    → orders_of new ≡ orders_of list
input_orders list new place at = ap orders_of at.others ∙ same_orders list place at.was at.now at.stood at.counts

-- what the peripheral at a place counts, and no other
pub counts_there : (list : List Registered) {new : List Registered} (place : ℕ) (was now : PeripheralState)
    (Counts : Kind → ℕ → ℕ → Type 0) → standing_at list place ≡ Some was
    → new ≡ with_peripheral list place (Some now) → Counts was.kind was.orders now.orders
    → CountsAt list place Counts new
counts_there list place was now Counts stood is counts =
    record { was = was; now = now; stood = stood; counts = counts; others = is }

-- ---- calls that give no order

-- the place to which a call gives an order, by its refusal and what it comes to
abbrev place_by : Option Answer → Option Action → Option ℕ → Option ℕ
place_by refusal comes_to place =
    if is_some refusal then None else (if gives_order comes_to then place else None)

-- a call that every category has comes to no action at a device
no_action : (k : Category) (at : Option Kind) (c : Control) (asked : Call) → is_common asked ≡ true
    → device_action k at c asked ≡ None
no_action k at c asked common = grind arith

idle : (refusal : Option Answer) (place : Option ℕ) → place_by refusal None place ≡ None
idle None place = refl
idle (Some refusal) place = refl

nowhere : (refusal : Option Answer) (comes_to : Option Action) → place_by refusal comes_to None ≡ None
nowhere None None = refl
nowhere None (Some (Gives given what)) = refl
nowhere None (Some (Changes what)) = refl
nowhere None (Some (Queues given)) = refl
nowhere (Some refusal) comes_to = refl

module _ (m : Machine) (n : ℕ) (asked : Call) where
  none_given : (c : Control) (o : Result Answer NoMemory) (orders : List (Option ℕ)) → asked_place m n c asked ≡ None
      → OrdersOfControl m n c asked o orders orders
  none_given c (Ok result) orders is = ap (λ p. given_at p orders) (sym is)
  none_given c (Err want) orders is = inl refl

  -- a call that every category has gives no order: where the counts stay as they were, its clause holds
  pub common_orders : (o : Result Answer NoMemory) (orders : List (Option ℕ)) {new : List (Option ℕ)} → new ≡ orders
      → is_common asked ≡ true → OrdersOfCall m n asked o orders new
  common_orders o orders same common = rw same (by (slice_get m.controls n))
    where
      by : (found : Option Control) → MatchOption found (orders ≡ orders)
          (λ control. OrdersOfControl m n control asked o orders orders)
      by None = refl
      by (Some c) =
          let refusal = first_refusal (refusals m n c asked) in
          none_given c o orders (ap (λ a. place_by refusal a (open_place c.device))
          (no_action c.category (kind_of m c) c asked common) ∙ idle refusal (open_place c.device))

  -- how many orders a call gives is how many its step gives
  pub call_given : (o : Result Answer NoMemory) (old new : List (Option ℕ)) → OrdersOfCall m n asked o old new
      → OrdersOfStep m (CallOf n asked) (answered o) old new
  call_given (Ok result) old new h = h
  call_given (Err want) old new h = h

  pub common_given : (o : Result Answer NoMemory) (orders : List (Option ℕ)) {new : List (Option ℕ)} → new ≡ orders
      → is_common asked ≡ true → OrdersOfStep m (CallOf n asked) (answered o) orders new
  common_given o orders {new} same common = call_given o orders new (common_orders o orders same common)

  -- nor does one of a control that has no device at a place open
  pub placeless_orders : (c : Control) (o : Result Answer NoMemory) (orders : List (Option ℕ))
      → slice_get m.controls n ≡ Some c → open_place c.device ≡ None → OrdersOfCall m n asked o orders orders
  placeless_orders c o orders found placeless =
      let refusal = first_refusal (refusals m n c asked) in
      let comes_to = device_action c.category (kind_of m c) c asked in
      rw found (none_given c o orders (ap (place_by refusal comes_to) placeless ∙ nowhere refusal comes_to))

-- the clause of a counter whose devices stay
pub answered_common : {D P : Type 0} (peripherals : Ghosts P) (old : Counter D P) (n : ℕ) (asked : Call)
    → is_common asked ≡ true → GivesOrders peripherals old (CallOf n asked) (Answered (Done Empty)) old
answered_common peripherals old n asked common part = common_given (machine peripherals old part) n asked
    (Ok (Done Empty)) (orders_in peripherals old.devices) refl common

-- ---- calls at a device

module _ (hs : List KeptControl) (list new : List Registered) (cl : List (Option ℕ)) (tn : Option (List ℕ))
    (part : TotalsPart) (place n : ℕ) (c : Control) (asked : Call) where
  abbrev m : Machine
  m = machine_with hs cl (devices_of list) tn part

  -- what a category's own calls require and come to, at a device of a kind
  abbrev rows : Kind → List Row
  rows k = own_refusals c.category (device_rows c.category (Some k) c asked) n cl asked c

  abbrev comes_to : Kind → Option Action
  comes_to k = device_action c.category (Some k) c asked

  -- how many orders the device's peripheral was given, by what refuses the call and what it comes to
  abbrev Counts : Result Answer NoMemory → Option Answer → Option Action → ℕ → ℕ → Type 0
  Counts r refusal does was now = MatchOption refusal
      (MatchOption does (now ≡ was) (λ given. OrdersBy given r was now))
      (λ refused. now ≡ was)

  module _ (r : Result Answer NoMemory) (at : CountsAt list place (OrdersAt n cl asked r (controls_of hs)) new)
      (device : c.device ≡ Some (At place)) where
    same_there : at.now.orders ≡ at.was.orders → orders_of new ≡ orders_of list
    same_there e = ap orders_of at.others ∙ same_orders list place at.was at.now at.stood e

    more_given : at.now.orders ≡ counted at.was.orders → orders_of new ≡ given_at (open_place c.device) (orders_of list)
    more_given e = ap orders_of at.others ∙ more_orders list place at.was at.now at.stood e
        ∙ ap (λ d. given_at (open_place d) (orders_of list)) (sym device)

    -- the counts after the orders at a place, if that is where the call gives them
    asked_there : (o : Option ℕ) → orders_of new ≡ given_at o (orders_of list) → asked_place m n c asked ≡ o
        → orders_of new ≡ given_at (asked_place m n c asked) (orders_of list)
    asked_there o is to = is ∙ ap (λ p. given_at p (orders_of list)) (sym to)

    by_outcome : (o : Result Answer NoMemory) (refusal : Option Answer) (does : Option Action)
        → Counts o refusal does at.was.orders at.now.orders
        → asked_place m n c asked ≡ place_by refusal does (open_place c.device)
        → OrdersOfControl m n c asked o (orders_of list) (orders_of new)
    by_outcome (Ok result) (Some refusal) does h to = asked_there None (same_there h) to
    by_outcome (Ok result) None None h to = asked_there None (same_there h) to
    by_outcome (Ok result) None (Some (Gives given what)) h to = asked_there (open_place c.device) (more_given h) to
    by_outcome (Ok result) None (Some (Changes what)) h to = asked_there None (same_there h) to
    by_outcome (Ok result) None (Some (Queues given)) h to = asked_there None (same_there h) to
    by_outcome (Err want) (Some refusal) does h to = inl (same_there h)
    by_outcome (Err want) None None h to = inl (same_there h)
    by_outcome (Err want) None (Some (Gives given what)) h to = elim h [
      | inl e ↦ inl (same_there e)
      | inr e ↦ inr (asked_there (open_place c.device) (more_given e) to)
    ]
    by_outcome (Err want) None (Some (Changes what)) h to = inl (same_there h)
    by_outcome (Err want) None (Some (Queues given)) h to = inl (same_there h)

  -- a call of a category's own gives its device as many orders as the category says
  pub device_orders : (r : Result Answer NoMemory) → is_common asked ≡ false → slice_get (controls_of hs) n ≡ Some c
      → c.device ≡ Some (At place) → AllByRecursion IsServed list
      → CountsAt list place (OrdersAt n cl asked r (controls_of hs)) new
      → OrdersOfCall m n asked r (orders_of list) (orders_of new)
  device_orders r own found device served at =
      let here = served_at list place served at.stood in
      let is = registered_there list place here.1 in
      let counts = MatchOption-at_some ⊥ (λ control. OwnOrders control.category
      (device_rows control.category (Some at.was.kind) control asked)
      (device_action control.category (Some at.was.kind) control asked) n cl asked r control at.was.orders
      at.now.orders) c found at.counts in
      let kind : kind_of m c ≡ Some at.was.kind = rw (device, is, here.3) refl in
      let unrefused : first_refusal (refusals m n c asked) ≡ first_refusal (rows at.was.kind) =
      ap first_refusal (own_call m n c asked own).rows ∙ rw (device, is, here.3) refl in
      let to : asked_place m n c asked
      ≡ place_by (first_refusal (rows at.was.kind)) (comes_to at.was.kind) (open_place c.device) =
      ap₂ (λ f k. place_by f (device_action c.category k c asked) (open_place c.device)) unrefused kind in
      rw found (by_outcome r at device r (first_refusal (rows at.was.kind)) (comes_to at.was.kind) counts to)

-- ---- work

module _ (list new : List Registered) (place : ℕ) {o : Option ℕ} (is : o ≡ Some place) where
  more_there : (orders : List (Option ℕ)) → one_more place orders ≡ given_at o orders
  more_there orders = ap (λ p. given_at p orders) (sym is)

  -- work gives its printer as many orders as the printer's crate says
  pub worked_orders : (result : WorkResult) → CountsAt list place (λ k. OrdersOfWork (Ok result)) new
      → OrdersOfWorkAt o (Ok result) (orders_of list) (orders_of new)
  worked_orders worked.Idle at = ap orders_of at.others ∙ same_orders list place at.was at.now at.stood at.counts
  worked_orders (worked.Done id) at =
      ap orders_of at.others ∙ more_orders list place at.was at.now at.stood at.counts ∙ more_there (orders_of list)
  worked_orders (worked.Failed code extended) at =
      ap orders_of at.others ∙ more_orders list place at.was at.now at.stood at.counts ∙ more_there (orders_of list)

  -- and work that finds no memory
  pub starved_orders : (want : NoMemory) → CountsAt list place (λ k. OrdersOfWork (Err want)) new
      → (orders_of new ≡ orders_of list) ⊎ (orders_of new ≡ given_at o (orders_of list))
  starved_orders want at = elim at.counts [
    | inl e ↦ inl (ap orders_of at.others ∙ same_orders list place at.was at.now at.stood e)
    | inr e ↦
        inr (ap orders_of at.others ∙ more_orders list place at.was at.now at.stood e ∙ more_there (orders_of list))
  ]

-- ---- exchanges

module _ (hs : List KeptControl) (list new : List Registered) (name : List ℕ) (cl : List (Option ℕ))
    (tn : Option (List ℕ)) (part : TotalsPart) where
  -- a peripheral comes and goes with its count, and every other keeps its own
  pub attach_orders : {B : Type 0} (state : B → PeripheralState) (peripheral : B)
      (result : Result (Unit {0}) (AttachFault × B)) → Attaches list name (state peripheral) result new
      → OrdersOfStep (machine_with hs cl (devices_of list) tn part) (Attach name (hardware_of (state peripheral)))
      (attached state result) (orders_of list) (orders_of new)
  attach_orders state peripheral (Ok u) h =
      leaves_others list h.place (Some (state peripheral)) (found_first name list h.found) h.served
  attach_orders state peripheral (Err (attach.Unknown, given)) h = ap orders_of h.1
  attach_orders state peripheral (Err (attach.InUse, given)) h = ap orders_of h.1
  attach_orders state peripheral (Err (attach.KindDiffers, given)) h = ap orders_of h.1

  pub detach_orders : {B : Type 0} (state : B → PeripheralState) (is_open : Bool) (result : Result B DetachFault)
      → Detaches state list name is_open result new
      → OrdersOfStep (machine_with hs cl (devices_of list) tn part) (Detach name) (detached state result)
      (orders_of list) (orders_of new)
  detach_orders state is_open (Ok peripheral) h =
      leaves_others list h.0.place None (found_first name list h.0.found) h.0.vacated
  detach_orders state is_open (Err detach.Unknown) h = ap orders_of h.1
  detach_orders state is_open (Err detach.Vacant) h = ap orders_of h.1
  detach_orders state is_open (Err detach.InUse) h = ap orders_of h.2
