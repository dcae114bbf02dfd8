use Rattle.pos_store.proofs.DiskFileLemmas.{new_standing}
use Rattle.pos_store.proofs.laws.new_standing.Goals as goal

pub returns : goal.returns
returns c = new_standing
