use Rattle.pos_events.proofs.EnqueueLemmas.{one_more_error}
use Rattle.pos_events.proofs.queue.EventQueue.input_error.Goals as goal

pub returns-clause-enqueued : goal.returns-clause-enqueued
returns-clause-enqueued c =
    let i = c.self.inside in
    rw (← c.self.view_is) (one_more_error i.input_data c.self.invariant c.if-self.false c.is_empty.ensures i.scans.ok.0)
