use Rattle.pos_events.proofs.EnqueueLemmas.{fits_push}
use Rattle.pos_events.proofs.queue.EventQueue.enqueue.Goals as goal

pub invariant_of-self : goal.invariant_of-self
invariant_of-self c = rw (c.push.ensures.events, c.push.ensures.behind)
    (fits_push c.self.inside.input_data c.self.inside.in_error c.self.inside.scans.items
    c.self.inside.immediate.events.items c.self.inside.immediate.behind c.args.event c.self.invariant)
