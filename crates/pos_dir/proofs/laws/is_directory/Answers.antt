use Rattle.pos_dir.proofs.DirectoryLemmas.{length-spelling}
use Rattle.pos_dir.proofs.laws.is_directory.Goals as goal

pub returns-clause-length : goal.returns-clause-length
returns-clause-length c = length-spelling (rw (← c.directory.view_is) c.directory.invariant.directory)
