use Rattle.pos_profile.proofs.Common.{arith}
use Rattle.pos_profile.proofs.ListLemmas.{any_mapped}
use Rattle.pos_profile.proofs.entry_list.is_second_totals.Goals as goal

pub returns-then-is_totals : goal.returns-then-is_totals
returns-then-is_totals c = grind (arith, any_mapped)
