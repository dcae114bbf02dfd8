use Rattle.pos_disk.proofs.CallLemmas.{syncs}
use Rattle.pos_mirror.proofs.shown.Shown.sync.Goals as goal

pub returns-clause-syncs : goal.returns-clause-syncs
returns-clause-syncs c = rw (c.synced-self-inside.ensures, ← c.self.view_is) (syncs c.self.inside.known.memory)
