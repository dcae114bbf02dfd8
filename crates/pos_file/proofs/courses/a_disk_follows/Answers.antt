use Rattle.pos_file.proofs.FollowsLemmas.{read_follows, sync_follows, write_follows}
use Rattle.pos_file.proofs.courses.a_disk_follows.Goals as goal

pub returns-clause-reads : goal.returns-clause-reads
returns-clause-reads g c = λ before start now old new at was out answer follows sound reads
    exact. read_follows g.F.BlockFile.calls before start now old new follows sound answer at was out reads exact

pub returns-clause-writes : goal.returns-clause-writes
returns-clause-writes g c = λ before start now old new at bytes put answer follows sound writes fits exact.
    write_follows g.F.BlockFile.calls before start now old new follows sound answer at bytes put writes fits exact

pub returns-clause-syncs : goal.returns-clause-syncs
returns-clause-syncs g c = λ before start now old new answer follows sound syncs. sync_follows g.F.BlockFile.calls
    before start now old new follows sound answer syncs
