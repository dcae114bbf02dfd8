use Rattle.kijolvar.proofs.Common.{ap}
use Rattle.std.proofs.Common.{Err}
use Rattle.kijolvar.proofs.WireCallsLemmas.{tells_no_order}
use Rattle.kijolvar.specs.Orders.{device_course}
use Rattle.kijolvar.proofs.wire_calls.write_order_bytes.Goals as goal

pub returns-in-Err-NoBytes : goal.returns-in-Err-NoBytes
returns-in-Err-NoBytes c =
    tells_no_order device_course c.args.till_state.now _ _ _ _ _ c.in-Some.ensures c.in-Some-waiting.ensures
    (rw c.twin.ensures at c.in-Err-NoBytes.ensures.settings_first (ap Err c.in-Err-NoBytes.field-0-is))
    (rw c.twin.ensures at c.in-Err-NoBytes.ensures.no_bytes (ap Err c.in-Err-NoBytes.field-0-is))
