use Rattle.pos_sims.proofs.Common.{rules}
use Rattle.pos_sims.proofs.ScrollLemmas.{scrolls_sized}
use Rattle.pos_sims.proofs.scroll.scroll_cells.Goals as goal

pub returns-in-Down : goal.returns-in-Down
returns-in-Down c = rw c.in-Down.is (search (rules, scrolls_sized))

pub returns-in-Left : goal.returns-in-Left
returns-in-Left c = rw c.in-Left.is (search (rules, scrolls_sized))

pub returns-in-Right : goal.returns-in-Right
returns-in-Right c = rw c.in-Right.is (search (rules, scrolls_sized))
