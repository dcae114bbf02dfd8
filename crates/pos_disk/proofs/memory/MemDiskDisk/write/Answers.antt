use Rattle.pos_disk.proofs.Common.{IsSaved, Memory, arith, length, length-map, memory_of, rules, state_of, written, ◌+◌}
use Rattle.pos_disk.proofs.Common.{◌≡◌, ◌≤◌}
use Rattle.pos_disk.proofs.CallLemmas.{writes}
use Rattle.pos_disk.proofs.WriteLemmas.{is_written, still_kept}
use Rattle.pos_disk.proofs.memory.MemDiskDisk.write.Goals.{After-overwrite}
use Rattle.pos_disk.proofs.memory.MemDiskDisk.write.Goals as goal

module _ (c : After-overwrite) where
  abbrev shown : Memory
  shown =
      let d = c.self.inside in
      memory_of d.bytes.items d.saved.items d.stamps.items d.stamp d.past.moments

  fits : c.args.at + length c.args.bytes.now ≤ length c.self.inside.bytes.items
  fits = rw (← c.self.view_is) at c.requires

  saved : IsSaved c.self.inside.stamps.items c.self.inside.stamp c.self.inside.bytes.items c.args.at
      (length c.args.bytes.now) c.self.inside.saved.items c.save.new.saved.items
  saved = search rules

  -- the disk afterwards
  becomes : memory_of c.overwrite.new.bytes.items c.save.new.saved.items c.mark.new.stamps.items c.self.inside.stamp
      c.and-self-inside.result.moments ≡ written c.args.at c.args.bytes.now shown
  becomes = grind (arith, is_written, length, fits, saved)

pub invariant_of-self : goal.invariant_of-self
invariant_of-self c = grind (arith, still_kept, length, fits, saved)

pub returns-clause-memory : goal.returns-clause-memory
returns-clause-memory c = rw (← c.self.view_is) (becomes c)

pub returns-clause-writes : goal.returns-clause-writes
returns-clause-writes c = grind (arith, length-map, state_of, becomes, writes, fits)
