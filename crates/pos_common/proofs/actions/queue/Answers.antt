use Rattle.pos_common.proofs.QueueLemmas.{says_at}
use Rattle.pos_common.proofs.actions.queue.Goals as goal

pub returns : goal.returns
returns c = λ at. says_at c.args.order c.args.controls.now c.args.number c.index-controls-number.result _ c.queue.result
    at c.requires.within c.queue.ensures
