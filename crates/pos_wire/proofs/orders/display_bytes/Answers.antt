use Rattle.std.proofs.Common.{◌≡◌, rules}
use Rattle.pos_service.specs.declared.order.Reply.TheVariants as reply
use Rattle.pos_service.specs.declared.plant.Mechanism.TheVariants as mechanism
use Rattle.pos_service.specs.Peripherals.{IsOn, Performs}
use Rattle.pos_wire.specs.Orders.{lit}
use Rattle.pos_wire.proofs.OrderLemmas.{both_of_ok, display_misfit, display_sends}
use Rattle.pos_wire.proofs.orders.display_bytes.Goals as goal

pub returns-clause-sends : goal.returns-clause-sends
returns-clause-sends g c =
    let state = g.P.Peripheral.state c.args.twin.now in
    let is = c.in-Display.before-is in
    let is_on : IsOn state.plant = search rules in
    let shown : state.plant.mechanism ≡ mechanism.Display c.in-Display.before = search rules in
    let done : Performs c.args.order.now (lit c.in-Display.before) reply.Done (lit c.in_ok-after.after) =
    rw (← is) c.in_ok-after.ensures.done in
    both_of_ok c.row_bytes.result _ _ _ (λ bytes exact shows end. display_sends end c.in_ok-after.after is_on shown done
    (rw (← is) exact) (rw (← is) shows)) c.row_bytes.ensures.bytes c.row_bytes.ensures.shows

pub returns-clause-no_bytes : goal.returns-clause-no_bytes
returns-clause-no_bytes g c = λ none.
    let state = g.P.Peripheral.state c.args.twin.now in
    let is = c.in-Display.before-is in
    let is_on : IsOn state.plant = search rules in
    let shown : state.plant.mechanism ≡ mechanism.Display c.in-Display.before = search rules in
    let done : Performs c.args.order.now (lit c.in-Display.before) reply.Done (lit c.in_ok-after.after) =
    rw (← is) c.in_ok-after.ensures.done in
    display_misfit c.args.is_new state c.args.order.now c.in_ok-after.after is_on shown done
    (rw (← is) (c.row_bytes.ensures.no_bytes none))
