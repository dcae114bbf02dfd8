use Rattle.kijolvar.proofs.EventLemmas.{says_settled}
use Rattle.kijolvar.specs.contracts.device.DevicePeripheral.TheImpl.{ghosts}
use Rattle.kijolvar.proofs.controls.next_event.Goals as goal

pub returns-in-InMemory : goal.returns-in-InMemory
returns-in-InMemory c = says_settled ghosts c.args.till_state.now c.args.from c.args.control.now
    c.write_event.new.control c.write_event.result c.next_event.result c.in-InMemory.is c.settlement.ensures.settlement
    c.settlement.ensures.in_file c.next_event.ensures c.write_event.ensures
