use Rattle.pos_run.proofs.Common.{refl}
use Rattle.pos_script.specs.declared.print.LineReply.TheVariants.{BadControl, Responded}
use Rattle.pos_service.specs.declared.request.Response.TheVariants.{Answered, OutOfMemory}
use Rattle.pos_run.proofs.SessionLemmas.{asks_none, asks_step, asks_what_was_read}
use Rattle.pos_run.proofs.lines.run_called.Goals as goal

pub returns-in_default-clause-line : goal.returns-in_default-clause-line
returns-in_default-clause-line g c = asks_what_was_read _ _ _ _ _ _ _ _ _ _ BadControl (g.met.D.Disk.only_now _)
    (asks_none _ _ _ _ _ BadControl _ (rw (← c.in_default.ensures) refl) refl refl) c.print_reply.ensures

pub returns-in-Ok-clause-line : goal.returns-in-Ok-clause-line
returns-in-Ok-clause-line g c =
    asks_what_was_read _ _ _ _ _ _ _ _ _ _ (Responded (Answered c.in-Ok.answer)) (g.met.D.Disk.only_now _)
    (asks_step (rw c.in-Ok.is at c.call.ensures.step) (rw (← c.in-Some.ensures) refl) refl refl) c.print_answer.ensures

pub returns-clause-line : goal.returns-clause-line
returns-clause-line g c = asks_what_was_read _ _ _ _ _ _ _ _ _ _ (Responded OutOfMemory) (g.met.D.Disk.only_now _)
    (asks_step (rw c.in-Err.is at c.call.ensures.step) (rw (← c.in-Some.ensures) refl) refl refl)
    c.print_reply-in-Err.ensures
