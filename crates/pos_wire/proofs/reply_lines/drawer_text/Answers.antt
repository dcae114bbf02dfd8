use Rattle.std.proofs.Common.{rules}
use Rattle.pos_wire.proofs.reply_lines.drawer_text.Goals as goal

pub returns-clause-text : goal.returns-clause-text
returns-clause-text c = record {
  sensors = c.sensors-sensors.result;
  sensors_are = c.sensors-sensors.ensures.pin;
  lines = search rules;
}
