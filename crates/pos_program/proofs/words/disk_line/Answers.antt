use Rattle.pos_program.proofs.words.disk_line.Goals as goal

pub returns : goal.returns
returns c = c.with_word.ensures _ _ c.begin_line.ensures.line c.path_option.ensures
