use Rattle.pos_disk.specs.Memory.{written}
use Rattle.kijolvar.proofs.HostedLemmas.{in_step_on, went_on, writes_hosted, written_so}
use Rattle.kijolvar.specs.Errands.{IsWrite}
use Rattle.kijolvar.specs.TillDisks.{hosted}
use Rattle.kijolvar.proofs.till_disk.TillDiskDisk.write.Goals as goal

pub invariant_of-self : goal.invariant_of-self
invariant_of-self c =
    let at = c.args.at in
    let bytes = c.args.bytes.now in
    let old = c.self.inside.memory in
    in_step_on (IsWrite at bytes) (written at bytes) (written_so at bytes) _ _ _ old c.write.new.self
    c.add_write-answer.ensures (λ done. c.write.ensures.memory) (went_on old c.write.new.self
    c.write.ensures.writes.time) c.self.invariant

pub returns-clause-writes : goal.returns-clause-writes
returns-clause-writes c = λ honest. rw (← c.self.view_is) (writes_hosted
    (hosted c.self.inside.memory c.self.inside.errands) (hosted c.write.new.self c.add_write-answer.new.errands)
    c.write.result c.write.ensures.done c.write.ensures.writes c.add_write-answer.ensures)
