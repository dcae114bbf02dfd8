-- The power of a simulated peripheral.
use Rattle.std.specs.Prelude.{Bool, true, not, Option, Some, None, if◌then◌else◌}
use Rattle.pos_service.specs.declared.input.Input.{Input}
use Rattle.pos_service.specs.declared.input.Input.TheVariants as input
use Rattle.pos_service.specs.declared.order.Reply.{Reply}
use Rattle.pos_service.specs.declared.order.Reply.TheVariants as reply
use Rattle.pos_service.specs.Peripherals.{PeripheralState}

-- the same peripheral, on or off
abbrev pub switched : Bool → PeripheralState → PeripheralState
switched powered state = record state { plant = record state.plant { powered = powered } }

-- whether the power is on after an input
abbrev pub power_after : Input → Bool → Bool
power_after (input.PowerMoved is_on) powered = is_on
power_after other powered = powered

-- nothing more comes of an input than that the power moves, or not even that, as it is off
abbrev pub passes_by : Bool → Input → Bool
passes_by powered (input.PowerMoved is_on) = true
passes_by powered other = not powered

-- what one that is off replies to an order, or none where it is on
abbrev pub off_reply : Bool → Option Reply
off_reply powered = if powered then None else Some reply.Offline

-- what is replied, by what one that is on replies
abbrev pub reply_while : Bool → Reply → Reply
reply_while powered on = if powered then on else reply.Offline
