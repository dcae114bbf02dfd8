use Rattle.std.proofs.Common.{arith, take_all}
use Rattle.kijolvar.proofs.HeldLemmas.{splits_at_end, splits_at_feed}
use Rattle.kijolvar.proofs.held_lines.first_line.Goals as goal

pub returns-then-text-place-eq10-clause-splits : goal.returns-then-text-place-eq10-clause-splits
returns-then-text-place-eq10-clause-splits c = splits_at_feed (grind arith) c.loop-place.invariant (grind arith)

pub returns-clause-splits : goal.returns-clause-splits
returns-clause-splits c = splits_at_end (grind (arith, take_all)) c.requires
