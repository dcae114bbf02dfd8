use Rattle.std.proofs.Common.{arith}
use Rattle.pos_service.proofs.StripLemmas.{cursor_free}
use Rattle.pos_service.proofs.display_text.place_after_byte.Goals as goal

pub returns-clause-follows : goal.returns-clause-follows
returns-clause-follows c = λ strip h. grind (arith, cursor_free)
