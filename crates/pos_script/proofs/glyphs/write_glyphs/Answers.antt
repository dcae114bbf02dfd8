use Rattle.pos_script.proofs.WriteLemmas.{behind_two, failed_between, failed_front}
use Rattle.pos_script.proofs.glyphs.write_glyphs.Goals as goal

pub returns-in_err-write_characters : goal.returns-in_err-write_characters
returns-in_err-write_characters g c = failed_front _ _ _ _ c.from_residual.ensures.1 c.in_err-write_characters.ensures

pub returns-in_err-write_bytes : goal.returns-in_err-write_bytes
returns-in_err-write_bytes g c = rw (← c.as_bytes.ensures.value) (failed_between _ _ _ _ _
    c.from_residual-in_err-write_bytes.ensures.1 c.in_ok-write_characters.ensures c.in_err-write_bytes.ensures)

pub returns : goal.returns
returns g c = rw (← c.as_bytes.ensures.value)
    (behind_two _ _ _ _ _ _ c.in_ok-write_characters.ensures c.in_ok-write_bytes.ensures c.write_looks.ensures)
