use Rattle.pos_events.proofs.EnqueueLemmas.{one_more_scan}
use Rattle.pos_events.proofs.queue.EventQueue.data.Goals as goal

pub returns-then-not-self-clause-enqueued : goal.returns-then-not-self-clause-enqueued
returns-then-not-self-clause-enqueued c = rw (← c.self.view_is, c.push_back_reserved.ensures.items)
    (one_more_scan c.args.scan c.self.invariant c.if-not-self.true)
