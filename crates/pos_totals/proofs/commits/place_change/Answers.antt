use Rattle.pos_totals.proofs.Common.{arith, ◌∙◌}
use Rattle.pos_totals.proofs.commits.place_change.Goals as goal

pub returns : goal.returns
returns c = c.lend.ensures ∙ grind (arith, c.handle.ensures, c.find_index.ensures)
