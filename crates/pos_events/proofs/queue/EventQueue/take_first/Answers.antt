use Rattle.pos_events.proofs.Common.{arith, nat_tests}
use Rattle.pos_events.proofs.DeliveryLemmas.{first_is_data, popped_scan}
use Rattle.pos_events.proofs.queue.EventQueue.take_first.Goals as goal

pub returns-clause-event : goal.returns-clause-event
returns-clause-event c =
    let front = c.pop_front-scan.ensures in
    let popped = popped_scan c.pop_front-scan.result c.self.inside.scans.items _
    (front.variant.1 (grind (arith, nat_tests))) front.items in
    let first = first_is_data c.self.inside.input_data c.self.inside.in_error popped.0 c.self.inside.scans.items _
    c.self.inside.immediate.events.items c.self.inside.immediate.behind c.before_first.result (grind arith) popped.2
    (grind arith) (grind (arith, nat_tests)) in
    rw (← c.self.view_is, first) (grind (arith, popped.1))

pub returns-clause-rest : goal.returns-clause-rest
returns-clause-rest c = grind (arith, nat_tests, first_is_data)
