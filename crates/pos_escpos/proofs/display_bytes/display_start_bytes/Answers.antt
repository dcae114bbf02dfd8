use Rattle.pos_escpos.proofs.DisplayLemmas.{starts_blank}
use Rattle.pos_escpos.proofs.display_bytes.display_start_bytes.Goals as goal

pub returns-clause-starts : goal.returns-clause-starts
returns-clause-starts c = starts_blank
