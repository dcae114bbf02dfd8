use Rattle.pos_escpos.proofs.OrderLemmas.{cut_fits, text_fits}
use Rattle.pos_escpos.proofs.laws.orders_fit.Goals as goal

pub returns-clause-text : goal.returns-clause-text
returns-clause-text c = text_fits

pub returns-clause-cut : goal.returns-clause-cut
returns-clause-cut c = cut_fits
