use Rattle.kijolvar.proofs.Common.{◌≡◌}
use Rattle.std.proofs.Common.{take}
use Rattle.kijolvar.specs.DeviceTexts.{devices_text}
use Rattle.kijolvar.proofs.device_texts.devices_text.Given as goal

abbrev pub invariant-loop-entry : goal.invariant-loop-entry
invariant-loop-entry l = l.text.items ≡ devices_text (take l.entry-index l.entries)
