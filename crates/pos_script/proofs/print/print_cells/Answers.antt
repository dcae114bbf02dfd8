use Rattle.pos_script.proofs.WriteLemmas.{behind_two, failed_between, failed_front}
use Rattle.pos_script.proofs.print.print_cells.Goals as goal

pub returns-in_err-write_parts : goal.returns-in_err-write_parts
returns-in_err-write_parts g c = failed_front _ _ _ _ c.from_residual.ensures.1 c.in_err-write_parts.ensures

pub returns-in_err-write_glyphs : goal.returns-in_err-write_glyphs
returns-in_err-write_glyphs g c = failed_between _ _ _ _ _ c.from_residual-in_err-write_glyphs.ensures.1
    c.in_ok-write_parts.ensures c.in_err-write_glyphs.ensures

pub returns : goal.returns
returns g c = behind_two _ _ _ _ _ _ c.in_ok-write_parts.ensures c.in_ok-write_glyphs.ensures c.write_parts-2.ensures
