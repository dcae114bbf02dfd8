use Rattle.pos_sims.proofs.Common.{blank, length, take-replicate, ◌∙◌}
use Rattle.pos_sims.proofs.ring_places.blank_row.Goals as goal

pub returns : goal.returns
returns c = c.copy_from_slice.ensures.after ∙ take-replicate (length c.args.cells.now) 80 blank c.requires
