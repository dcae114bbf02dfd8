use Rattle.pos_tool.proofs.line.run_line.Goals as goal

pub returns : goal.returns
returns c =
    let scripts = c.with_word-scripts.ensures _ _ c.begin_line.ensures.line c.places.ensures in
    let profiled = c.with_word-profiled.ensures _ _ scripts c.valued.ensures in
    let totalled = c.with_word-totalled.ensures _ _ profiled c.valued-2.ensures in
    c.with_word.ensures _ _ totalled c.flag.ensures
