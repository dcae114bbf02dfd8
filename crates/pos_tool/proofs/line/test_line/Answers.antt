use Rattle.pos_tool.proofs.line.test_line.Goals as goal

pub returns : goal.returns
returns c =
    let paths = c.with_word-paths.ensures _ _ c.begin_line.ensures.line c.some_places.ensures in
    let profiled = c.with_word-profiled.ensures _ _ paths c.valued.ensures in
    let reported = c.with_word-reported.ensures _ _ profiled c.valued-2.ensures in
    c.with_word.ensures _ _ reported c.valued-3.ensures
