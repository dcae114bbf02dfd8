use Rattle.pos_disk.proofs.Common.{length, ◌+◌, ◌≤◌}
use Rattle.pos_disk.proofs.CallLemmas.{writes}
use Rattle.pos_mirror.proofs.shown.Shown.write.Goals as goal

pub returns-clause-writes : goal.returns-clause-writes
returns-clause-writes c =
    let memory = c.self.inside.known.memory in
    let fits : c.args.at + length c.args.bytes.now ≤ length memory.present.reading =
    rw (← c.self.view_is) at c.requires in
    rw (c.written-self-inside.ensures, ← c.self.view_is)
    (writes memory c.args.at c.args.bytes.now c.self.invariant.each fits)
