use Rattle.pos_disk.proofs.Common.{Memory, arith, memory_of, state_of, synced, ◌∙◌, ◌≡◌}
use Rattle.pos_disk.proofs.CallLemmas.{syncs}
use Rattle.pos_disk.proofs.StampLemmas.{memory_fresh}
use Rattle.pos_disk.proofs.memory.MemDiskDisk.sync.Goals.{After-next_stamp-self-inside}
use Rattle.pos_disk.proofs.memory.MemDiskDisk.sync.Goals as goal

module _ (c : After-next_stamp-self-inside) where
  abbrev shown : Memory
  shown =
      let d = c.self.inside in
      memory_of d.bytes.items d.saved.items d.stamps.items d.stamp d.past.moments

  -- the disk afterwards
  becomes : memory_of c.self.inside.bytes.items c.self.inside.saved.items c.next_stamp-self-inside.new.stamps.items
      c.next_stamp-self-inside.result c.and-self-inside.result.moments ≡ synced shown
  becomes =
      let d = c.self.inside in
      let is = memory_fresh d.saved.items c.next_stamp-self-inside.new.stamps.items c.and-self-inside.result.moments
      c.self.invariant.saved_length
      (c.next_stamp-self-inside.ensures.length ∙ c.self.invariant.stamps_length) c.next_stamp-self-inside.ensures.later
      in
      grind (arith, is)

pub returns-clause-memory : goal.returns-clause-memory
returns-clause-memory c = let d = (goal.at.returns-clause-memory c).After-next_stamp-self-inside in
    rw (← d.self.view_is) (becomes d)

pub returns-clause-syncs : goal.returns-clause-syncs
returns-clause-syncs c = grind (arith, state_of, becomes, syncs)
