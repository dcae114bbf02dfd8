use Rattle.std.proofs.Common.{rules}
use Rattle.pos_wire.proofs.reply_lines.printer_text.Goals as goal

pub returns-clause-text : goal.returns-clause-text
returns-clause-text c chars = record {
  sensors = c.sensors-sensors.result;
  sensors_are = (c.sensors-sensors.ensures.near, c.sensors-sensors.ensures.lines);
  lines = search rules;
}
