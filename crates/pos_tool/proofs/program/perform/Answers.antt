use Rattle.std.proofs.Common.{Err, ap, refl}
use Rattle.pos_tool.specs.declared.fault.Fault.TheVariants as fault
use Rattle.pos_tool.proofs.program.perform.Goals as goal

pub returns-in-Err : goal.returns-in-Err
returns-in-Err g c = record {
  outcome = Err (fault.Words c.fault_of_unread.result);
  done = rw c.in-Err.is (ap (λ why. Err (fault.Words why)) c.fault_of_unread.ensures, refl, refl);
  ends = c.end-in-Err.ensures;
}
