use Rattle.pos_tool.proofs.line.program_line.Goals as goal

pub returns : goal.returns
returns c =
    let runs = c.with_command-runs.ensures _ _ c.making_line.ensures c.run_line.ensures in
    let tests = c.with_command-tests.ensures _ _ runs c.test_line.ensures in
    let completes = c.with_command-completes.ensures _ _ tests c.place_line.ensures in
    c.with_command.ensures _ _ completes c.begin_line.ensures.line
