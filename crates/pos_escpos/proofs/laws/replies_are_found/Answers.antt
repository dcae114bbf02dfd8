use Rattle.pos_escpos.proofs.ReplyLemmas.{reads_automatic, reads_in_order, reads_job, reads_now}
use Rattle.pos_escpos.proofs.laws.replies_are_found.Goals as goal

pub returns-clause-automatic : goal.returns-clause-automatic
returns-clause-automatic c = reads_automatic

pub returns-clause-job : goal.returns-clause-job
returns-clause-job c = reads_job

pub returns-clause-now : goal.returns-clause-now
returns-clause-now c = reads_now

pub returns-clause-in_order : goal.returns-clause-in_order
returns-clause-in_order c = reads_in_order
