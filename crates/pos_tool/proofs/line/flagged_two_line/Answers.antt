use Rattle.pos_tool.proofs.line.flagged_two_line.Goals as goal

pub returns : goal.returns
returns c = c.with_word.ensures _ _ c.two_line.ensures c.flag.ensures
