use Rattle.pos_profile.proofs.Common.{arith}
use Rattle.pos_profile.proofs.TableLemmas.{data_of_values}
use Rattle.pos_profile.proofs.table.values_at.Goals as goal

pub returns-in-Some-as_array : goal.returns-in-Some-as_array
returns-in-Some-as_array c = grind (arith, data_of_values)
