use Rattle.pos_disk.proofs.Common.{refl}
use Rattle.pos_mirror.proofs.CallLemmas.{reads_under}
use Rattle.pos_mirror.proofs.mirror.MirrorDiskDisk.read.Goals as goal

pub returns-clause-reads : goal.returns-clause-reads
returns-clause-reads g c =
    λ honest. rw (← c.self.view_is) (reads_under c.self.inside.failures c.self.invariant.last refl c.read.ensures)
