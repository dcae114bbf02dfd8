use Rattle.kijolvar.proofs.HostedLemmas.{reads_hosted}
use Rattle.kijolvar.proofs.till_disk.TillDiskDisk.read.Goals as goal

pub returns-clause-reads : goal.returns-clause-reads
returns-clause-reads c = λ honest. rw (← c.self.view_is) (reads_hosted c.self.inside.errands c.self.inside.memory
    c.read.new.self c.read.result c.read.ensures.done c.read.ensures.reads)
