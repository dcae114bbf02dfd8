use Rattle.pos_disk.proofs.MomentLemmas.{weaker}
use Rattle.pos_counter.specs.Moves.{resumed}
use Rattle.pos_counter.proofs.MoveLemmas.{through}
use Rattle.pos_counter.proofs.PrefixRunLemmas.{bytes_along}
use Rattle.pos_counter.proofs.PrefixLemmas.{fits_start, held_along}
use Rattle.pos_counter.proofs.moves.crash_prefix_through_a_move.Goals as goal

pub returns-clause-any_moment : goal.returns-clause-any_moment
returns-clause-any_moment g c history left old result each moves =
    weaker _ _ _ _ (through history left each) moves.any_moment

pub returns-clause-now : goal.returns-clause-now
returns-clause-now g c history left old result each moves bytes may =
    through history left each bytes (moves.now bytes may)

pub returns-clause-along : goal.returns-clause-along
returns-clause-along g c history standing is first last steps run starts bytes left =
    let now = resumed is.layout history is.prefix in
    bytes_along now first steps last run (fits_start is.made starts) left

pub returns-clause-held : goal.returns-clause-held
returns-clause-held g c history standing is first last steps run =
    held_along (resumed is.layout history is.prefix) history.settled first steps last run is.holds
