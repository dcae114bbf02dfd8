use Rattle.pos_common.proofs.Common.{controls_of, hardware_of}
use Rattle.pos_common.proofs.QueueLemmas.{queued_of}
use Rattle.pos_common.proofs.actions.execute.Goals as goal

pub returns-in-Queues-clause-done : goal.returns-in-Queues-clause-done
returns-in-Queues-clause-done g c =
    let at = hardware_of (g.P.Peripheral.state c.args.peripheral.now) in
    rw c.in-Queues.is (queued_of c.in-Queues.order c.args.number c.args.place c.queue.result
    (controls_of c.args.controls.now) (controls_of c.queue.new.controls) at (c.queue.ensures at))
