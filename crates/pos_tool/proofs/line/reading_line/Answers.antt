use Rattle.pos_tool.proofs.line.reading_line.Goals as goal

pub returns : goal.returns
returns c =
    let explains = c.with_command-explains.ensures _ _ c.top_line.ensures c.explain_line.ensures in
    let checks = c.with_command-checks.ensures _ _ explains c.flagged_line.ensures in
    let lists = c.with_command-lists.ensures _ _ checks c.flagged_line-2.ensures in
    let prints = c.with_command-prints.ensures _ _ lists c.flagged_two_line.ensures in
    let dumps = c.with_command-dumps.ensures _ _ prints c.place_line.ensures in
    c.with_command.ensures _ _ dumps c.two_line.ensures
