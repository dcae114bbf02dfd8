use Rattle.pos_disk.specs.Memory.{synced}
use Rattle.kijolvar.proofs.HostedLemmas.{in_step_on, synced_so, went_on}
use Rattle.kijolvar.specs.Errands.{IsSync}
use Rattle.kijolvar.proofs.till_disk.TillDiskDisk.sync.Goals as goal

pub invariant_of-self-2 : goal.invariant_of-self-2
invariant_of-self-2 c = in_step_on IsSync synced synced_so _ _ _ c.self.inside.memory c.sync.new.self
    c.add_sync.ensures (λ done. c.sync.ensures.memory) (went_on c.self.inside.memory c.sync.new.self
    c.sync.ensures.syncs.time) c.self.invariant
