use Rattle.pos_escpos.proofs.LossLemmas.{begun_gives_none, counts_all, job_is_long, lost_gives_none, reads_pieces}
use Rattle.pos_escpos.proofs.LossLemmas.{status_is_long}
use Rattle.pos_escpos.proofs.laws.losses_are_seen.Goals as goal

pub returns-clause-pieces : goal.returns-clause-pieces
returns-clause-pieces c = reads_pieces

pub returns-clause-counts : goal.returns-clause-counts
returns-clause-counts c = counts_all

pub returns-clause-lost : goal.returns-clause-lost
returns-clause-lost c = lost_gives_none

pub returns-clause-begun : goal.returns-clause-begun
returns-clause-begun c = begun_gives_none

pub returns-clause-acknowledgements : goal.returns-clause-acknowledgements
returns-clause-acknowledgements c = job_is_long

pub returns-clause-statuses : goal.returns-clause-statuses
returns-clause-statuses c = status_is_long
