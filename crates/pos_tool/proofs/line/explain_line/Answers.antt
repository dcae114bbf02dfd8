use Rattle.pos_tool.proofs.line.explain_line.Goals as goal

pub returns : goal.returns
returns c = c.with_word.ensures _ _ c.place_line.ensures c.free_place.ensures
