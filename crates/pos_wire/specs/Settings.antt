-- What a host says of a device's hardware, as numbers.
use Rattle.std.specs.Prelude.{ℕ, Bool, true, nat_le, nat_lt, ◌==◌, ◌&&◌, ◌||◌, if◌then◌else◌}
use Rattle.pos_service.specs.declared.kind.Kind.{Kind}
use Rattle.pos_service.specs.declared.kind.Kind.TheVariants as kind
use Rattle.pos_escpos.specs.declared.settings.Cutter.{Cutter}
use Rattle.pos_escpos.specs.declared.settings.Cutter.TheVariants as cutter
use Rattle.pos_escpos.specs.declared.settings.CutSettings.{CutSettings}
use Rattle.pos_escpos.specs.declared.settings.DisplayProtocol.{DisplayProtocol}
use Rattle.pos_escpos.specs.declared.settings.DisplayProtocol.TheVariants as protocol
use Rattle.pos_escpos.specs.declared.settings.DrawerKick.{DrawerKick}
use Rattle.pos_escpos.specs.declared.settings.DrawerPin.{DrawerPin}
use Rattle.pos_escpos.specs.declared.settings.DrawerPin.TheVariants as pin
use Rattle.pos_wire.specs.declared.settings.WireSettings.{WireSettings}

-- the numbers of a drawer are in their ranges
abbrev pub drawer_fits : WireSettings → Bool
drawer_fits settings =
    (settings.pin == 2 || settings.pin == 5) && nat_le settings.on 255 && nat_le settings.off 255
    && nat_le settings.open_is_high 1

-- those of a printer are, for a device of so many characters a line whose paper is near its end at so many lines
abbrev pub printer_fits : ℕ → ℕ → WireSettings → Bool
printer_fits chars near settings =
    nat_le chars settings.width && nat_le settings.cutter 3 && nat_le settings.feed 255 && nat_lt near settings.lines
    && nat_le settings.lines 100000

-- those of a kind are
abbrev pub settings_fit : Kind → WireSettings → Bool
settings_fit kind.Drawer settings = drawer_fits settings
settings_fit kind.Scanner settings = true
settings_fit (kind.Display rows columns) settings = nat_le settings.protocol 1
settings_fit (kind.Printer chars near) settings = printer_fits chars near settings

-- what a cutter with a number does
abbrev pub cutter_of : ℕ → Cutter
cutter_of n =
    if n == 0 then cutter.Both else (if n == 1 then cutter.Full else (if n == 2 then cutter.Partial else cutter.Absent))

-- how a printer cuts
abbrev pub cut_of : WireSettings → CutSettings
cut_of settings = record { cutter = cutter_of settings.cutter; feed = settings.feed }

-- the pin of a drawer's pulse
abbrev pub pin_of : ℕ → DrawerPin
pin_of n = if n == 2 then pin.Two else pin.Five

-- the pulse that opens a drawer
abbrev pub kick_of : WireSettings → DrawerKick
kick_of settings = record { pin = pin_of settings.pin; on = settings.on; off = settings.off }

-- a display's protocol
abbrev pub protocol_of : WireSettings → DisplayProtocol
protocol_of settings = if settings.protocol == 0 then protocol.Cd5220 else protocol.EscPos
