use Rattle.pos_dir.proofs.GroupLemmas.{one_group_spelling}
use Rattle.pos_dir.proofs.laws.one_group_spelling.Goals as goal

pub returns : goal.returns
returns c = one_group_spelling
