use Rattle.pos_profile.proofs.Common.{arith}
use Rattle.pos_profile.proofs.TableLemmas.{data_of_values}
use Rattle.pos_profile.proofs.table.array_in.Goals as goal

pub returns-in-Some : goal.returns-in-Some
returns-in-Some c = grind (arith, data_of_values)
