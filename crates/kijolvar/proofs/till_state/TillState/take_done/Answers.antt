use Rattle.kijolvar.proofs.Common.{refl}
use Rattle.kijolvar.proofs.DrivenLemmas.{held_behind, takes_done}
use Rattle.kijolvar.specs.Orders.{device_course as hosts}
use Rattle.kijolvar.specs.contracts.device.DevicePeripheral.TheImpl.{ghosts as devices}
use Rattle.kijolvar.specs.contracts.till_disk.TillDiskDisk.TheImpl.{ghosts as disks}
use Rattle.kijolvar.proofs.till_state.TillState.take_done.Goals as goal

pub begin_answer-requires : goal.begin_answer-requires
begin_answer-requires c = record {
  counter = c.requires.counter;
  spares = c.requires.spares;
  held = held_behind c.in-Ok-insert_behind_first.ensures.inserted c.in-Ok.ensures.each c.requires.held;
}

pub returns-clause-takes : goal.returns-clause-takes
returns-clause-takes c = takes_done disks hosts devices c.in-Ok.lines.items refl c.begin_answer.ensures.begins
    c.report.ensures.stays c.report.ensures.hosts c.report.ensures.tally c.in-Ok.ensures.lines
    c.in-Ok-insert_behind_first.ensures.inserted
    c.requires.held c.go_on.ensures.go_on c.go_on.ensures.rest
