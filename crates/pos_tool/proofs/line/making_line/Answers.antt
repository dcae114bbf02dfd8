use Rattle.pos_tool.proofs.line.making_line.Goals as goal

pub returns : goal.returns
returns c =
    let creates = c.with_command-creates.ensures _ _ c.reading_line.ensures c.place_line.ensures in
    let migrates = c.with_command-migrates.ensures _ _ creates c.place_line-2.ensures in
    let backs_up = c.with_command-backs_up.ensures _ _ migrates c.two_line.ensures in
    let restores = c.with_command-restores.ensures _ _ backs_up c.flagged_two_line.ensures in
    let loads = c.with_command-loads.ensures _ _ restores c.two_line-2.ensures in
    c.with_command.ensures _ _ loads c.two_line-3.ensures
