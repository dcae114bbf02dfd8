use Rattle.pos_script.proofs.WriteLemmas.{failed_part}
use Rattle.pos_script.proofs.write.write_parts.Goals as goal

pub returns-in_err-write_bytes : goal.returns-in_err-write_bytes
returns-in_err-write_bytes g c = failed_part _ _ _ _ _ c.args.parts.now _ _ c.from_residual.ensures.1
    c.loop-part-test.true c.as_bytes.ensures.value c.loop-part.invariant c.in_err-write_bytes.ensures
