use Rattle.pos_sims.proofs.Common.{arith, nat_tests, take-add}
use Rattle.std.proofs.lemmas.List.Folds.{list_all-append}
use Rattle.pos_sims.proofs.text_layout.skip_eights.Goals as goal

pub loop-place-preserved : goal.loop-place-preserved
loop-place-preserved c = grind (arith, nat_tests, take-add, list_all-append)
