use Rattle.pos_streams.proofs.MemoryLemmas.{takes_more}
use Rattle.pos_streams.proofs.memory.MemorySourceSource.read.Goals as goal

pub returns : goal.returns
returns c = takes_more c.args.self.now.bytes.now c.args.buffer.now c.args.self.now.position c.args.self.now.ends.count
    c.min-count.result c.min-position.ensures c.min-count.ensures c.if-count-eq0.false c.copy_from_slice.ensures.after
