use Rattle.pos_tool.proofs.line.place_line.Goals as goal

pub returns : goal.returns
returns c = c.with_word.ensures _ _ c.begin_line.ensures.line c.place.ensures
