use Rattle.pos_sims.proofs.Common.{arith, pieces_asked, refl, work_of}
use Rattle.pos_sims.proofs.TapeLemmas.{asked}
use Rattle.pos_sims.proofs.tape.Tape.print.Goals as goal

pub returns-in-Ok-clause-ok : goal.returns-in-Ok-clause-ok
returns-in-Ok-clause-ok c = grind (arith, asked c.args.self.now c.begin.new.self.chars (work_of c.begin.new.self))

pub returns-in-Ok-clause-used : goal.returns-in-Ok-clause-used
returns-in-Ok-clause-used c =
    let used = (asked c.args.self.now c.begin.new.self.chars (work_of c.begin.new.self) (work_of c.lay_asked.new.self)
    (pieces_asked c.args.asked.now) c.begin.ensures.chars c.begin.ensures.work c.in-Ok.ensures.ok).1 in
    (used, omega (arith, c.lay_asked.new.self.sparing, c.lay_asked.ensures.adds.limit, c.begin.ensures.limit))

pub returns-in-Err-clause-paper : goal.returns-in-Err-clause-paper
returns-in-Err-clause-paper c = λ e.
    let used = (asked c.args.self.now c.begin.new.self.chars (work_of c.begin.new.self) _
    (pieces_asked c.args.asked.now) c.begin.ensures.chars c.begin.ensures.work refl).1 in
    grind (arith, used, e)
