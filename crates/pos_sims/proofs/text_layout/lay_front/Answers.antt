use Rattle.pos_sims.proofs.Common.{arith, take_more}
use Rattle.pos_sims.proofs.text_layout.lay_front.Goals as goal

pub returns-then-count-eq0-clause-follows : goal.returns-then-count-eq0-clause-follows
returns-then-count-eq0-clause-follows g c =
    λ old strip h. rw (take_more c.args.bytes.now 0 0 (omega arith)) (c.lay_byte.ensures.follows old strip h)
