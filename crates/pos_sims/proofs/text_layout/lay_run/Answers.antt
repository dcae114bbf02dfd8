use Rattle.pos_sims.proofs.Common.{arith}
use Rattle.pos_sims.proofs.RunLemmas.{run_here}
use Rattle.pos_sims.proofs.text_layout.lay_run.Goals as goal

pub returns-clause-follows : goal.returns-clause-follows
returns-clause-follows g c = λ old strip h. grind (
  arith,
  run_here c.args.style old c.args.characters.now (g.W.Grid.shown c.args.window.now).cells strip c.args.place,
)
