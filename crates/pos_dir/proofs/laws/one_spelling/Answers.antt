use Rattle.pos_dir.proofs.DirectoryLemmas.{one_spelling}
use Rattle.pos_dir.proofs.laws.one_spelling.Goals as goal

pub returns : goal.returns
returns c = one_spelling
