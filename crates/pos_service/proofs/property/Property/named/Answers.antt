use Rattle.std.proofs.Common.{◌∙◌, ◌==◌, ◌||◌, nat_le, arith}
use Rattle.std.proofs.lemmas.Bool.Decides.{nat_tests}
use Rattle.pos_service.proofs.NameLemmas.{as_long}
use Rattle.pos_service.proofs.property.Property.named.Goals as goal

pub returns-in-9 : goal.returns-in-9
returns-in-9 c = c.named_in_nine.ensures ∙ as_long (λ k. k == 9) c.args.word.now (grind (arith, nat_tests, c.in-9.is))

pub returns-in-12 : goal.returns-in-12
returns-in-12 c = c.named_in_twelve.ensures
    ∙ as_long (λ k. k == 12) c.args.word.now (grind (arith, nat_tests, c.in-12.is))

pub returns-in-13 : goal.returns-in-13
returns-in-13 c = c.named_in_thirteen.ensures
    ∙ as_long (λ k. k == 13) c.args.word.now (grind (arith, nat_tests, c.in-13.is))

pub returns-in-10 : goal.returns-in-10
returns-in-10 c = c.named_in_ten.ensures
    ∙ as_long (λ k. k == 10 || k == 11) c.args.word.now (grind (arith, nat_tests, c.in-10))

pub returns-in_default : goal.returns-in_default
returns-in_default c = c.named_at_length.ensures
    ∙ as_long (λ k. nat_le 14 k) c.args.word.now (grind (arith, nat_tests, c.in_default))
