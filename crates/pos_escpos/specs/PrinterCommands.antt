-- The commands for a printer that print nothing.
use Rattle.std.specs.Prelude.{◌≡◌, ℕ, ◌+◌, ◌/◌, ◌%◌, Bool, List, [], ◌∷◌, ◌++◌, if◌then◌else◌}
use Rattle.pos_escpos.specs.declared.printer_commands.NowStatus.{NowStatus}
use Rattle.pos_escpos.specs.declared.printer_commands.NowStatus.TheVariants as now
use Rattle.pos_escpos.specs.declared.printer_commands.OrderStatus.{OrderStatus}
use Rattle.pos_escpos.specs.declared.printer_commands.OrderStatus.TheVariants as in_order
use Rattle.pos_escpos.specs.declared.settings.DrawerKick.{DrawerKick}
use Rattle.pos_escpos.specs.declared.settings.DrawerPin.{DrawerPin}
use Rattle.pos_escpos.specs.declared.settings.DrawerPin.TheVariants as pin
use Rattle.pos_escpos.specs.Printers.{IsReady, Press, Pulse}

-- GS a: automatic status on or off
abbrev pub automatic_command : Bool → List ℕ
automatic_command is_automatic = 29 ∷ 97 ∷ (if is_automatic then 255 else 0) ∷ []

-- ESC @, and then GS a
abbrev pub start_command : Bool → List ℕ
start_command is_automatic = 27 ∷ 64 ∷ automatic_command is_automatic

-- From the old printer, whatever it had begun to print, the new one is ready, and was asked for an automatic status or
-- none; each command is known.
pub record IsStarted (is_automatic : Bool) (old new : Press) : Type 0 where
  pub ready : IsReady new
  pub paper : new.paper ≡ old.paper
  pub pulses : new.pulses ≡ old.pulses
  pub asked : new.asked ≡ old.asked ++ automatic_command is_automatic ∷ []
  pub unknown : new.unknown ≡ old.unknown

-- the pin's number
abbrev pub pin_number : DrawerPin → ℕ
pin_number pin.Two = 2
pin_number pin.Five = 5

-- the pulse that opens a drawer
abbrev pub kick_pulse : DrawerKick → Pulse
kick_pulse kick = record { pin = pin_number kick.pin; on = kick.on; off = kick.off }

-- the number of a pin in ESC p
abbrev pub kick_number : DrawerPin → ℕ
kick_number pin.Two = 0
kick_number pin.Five = 1

-- ESC p
abbrev pub kick_command : DrawerKick → List ℕ
kick_command kick = 27 ∷ 112 ∷ kick_number kick.pin ∷ kick.on ∷ kick.off ∷ []

-- the number of a status in DLE EOT
abbrev pub now_number : NowStatus → ℕ
now_number now.Printer = 1
now_number now.OfflineCause = 2
now_number now.Fault = 3
now_number now.Paper = 4

-- DLE EOT
abbrev pub now_command : NowStatus → List ℕ
now_command status = 16 ∷ 4 ∷ now_number status ∷ []

-- the number of a status in GS r
abbrev pub order_number : OrderStatus → ℕ
order_number in_order.Paper = 1
order_number in_order.Drawer = 2

-- GS r
abbrev pub order_command : OrderStatus → List ℕ
order_command status = 29 ∷ 114 ∷ order_number status ∷ []

-- A job's number in four characters, each 0x40 to 0x4F. No such byte begins a reply, so a part of an acknowledgement is
-- never taken for another reply.
abbrev pub job_characters : ℕ → List ℕ
job_characters number =
    (64 + number / 4096) ∷ (64 + number / 256 % 16) ∷ (64 + number / 16 % 16) ∷ (64 + number % 16) ∷ []

-- GS ( H
abbrev pub job_command : ℕ → List ℕ
job_command number = 29 ∷ 40 ∷ 72 ∷ 6 ∷ 0 ∷ 48 ∷ 48 ∷ job_characters number
