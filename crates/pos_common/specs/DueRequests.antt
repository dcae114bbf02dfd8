-- The request of a control that is to be done now (common chapter, asynchronous output).
use Rattle.std.specs.Prelude.{ℕ, Option, None, if◌then◌else◌}
use Rattle.pos_service.specs.declared.order.Order.{Order}
use Rattle.pos_service.specs.Controls.{Control, listens}
use Rattle.pos_service.specs.Output.{request_to_do}

-- the first request of a control, if it has the device at this place open and enabled and is in no output error state
abbrev pub first_request : ℕ → Control → Option (ℕ × Order)
first_request place control = if listens place control then request_to_do control.writer.output else None
