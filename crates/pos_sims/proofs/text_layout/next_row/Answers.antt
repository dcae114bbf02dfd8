use Rattle.pos_sims.proofs.Common.{arith}
use Rattle.pos_sims.proofs.WindowLemmas.{scrolled}
use Rattle.pos_sims.proofs.text_layout.next_row.Goals as goal

pub returns-clause-follows : goal.returns-clause-follows
returns-clause-follows g c = λ old strip h. grind (
  arith,
  scrolled c.args.style old (g.W.Grid.shown c.args.window.now).cells
      (g.W.Grid.shown c.feed_row.new.self).cells strip c.args.place,
)
