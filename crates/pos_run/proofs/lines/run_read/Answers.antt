use Rattle.pos_run.proofs.SessionLemmas.{asks_what_was_read}
use Rattle.pos_run.proofs.lines.run_read.Goals as goal

pub returns-in-Ok-clause-line : goal.returns-in-Ok-clause-line
returns-in-Ok-clause-line g c = rw c.in-Ok.is
    (asks_what_was_read _ _ _ _ _ _ _ _ _ _ _ (g.met.D.Disk.only_now _) c.ask.ensures.asks c.print_reply.ensures)
