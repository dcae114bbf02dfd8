use Rattle.pos_counter.proofs.Common.{moved_with, rules}
use Rattle.pos_counter.proofs.PrefixRunLemmas.{bytes_along, run_fits}
use Rattle.pos_counter.proofs.PrefixLemmas.{fits_leaves, fits_moved, held_along, moved_prefix}
use Rattle.pos_counter.proofs.laws.crash_prefix_across_a_move.Goals as goal

pub returns-clause-moved : goal.returns-clause-moved
returns-clause-moved c = moved_prefix

pub returns-clause-after : goal.returns-clause-after
returns-clause-after c history held files sequence is first last steps run starts =
    search (rules, fits_leaves, run_fits, fits_moved)

pub returns-clause-along : goal.returns-clause-along
returns-clause-along c history held files sequence is first last steps run starts =
    search (rules, bytes_along, fits_moved)

pub returns-clause-held : goal.returns-clause-held
returns-clause-held c history held files sequence is first last steps run =
    held_along (moved_with history is.prefix) held first steps last run is.holds
