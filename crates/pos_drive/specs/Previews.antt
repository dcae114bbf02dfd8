-- What a peripheral would reply to an order.
use Rattle.std.specs.Prelude.{◌≡◌}
use Rattle.pos_service.specs.declared.order.Order.{Order}
use Rattle.pos_service.specs.declared.order.Reply.{Reply}
use Rattle.pos_service.specs.declared.plant.Plant.{Plant}
use Rattle.pos_service.specs.Peripherals.{Performs}

-- A peripheral of this plant carries out the order with no other reply.
abbrev pub Foretells : Plant → Order → Reply → Type 0
Foretells plant asked foretold = (said : Reply) (new : Plant) → Performs asked plant said new → said ≡ foretold
