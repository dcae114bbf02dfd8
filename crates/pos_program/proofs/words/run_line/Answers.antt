use Rattle.pos_program.proofs.words.run_line.Goals as goal

pub returns : goal.returns
returns c =
    let profiled = c.with_word-profiled.ensures _ _ c.begin_line.ensures.line c.path_option.ensures in
    c.with_word.ensures _ _ profiled c.path_option-2.ensures
