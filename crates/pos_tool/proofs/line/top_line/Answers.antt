use Rattle.pos_tool.proofs.ParseLemmas.{begun}
use Rattle.pos_tool.proofs.line.top_line.Goals as goal

pub returns : goal.returns
returns c =
    let bare = begun _ _ _ _ _ c.new.ensures.app c.new.ensures.local c.no_binary_name-named.ensures
    c.disable_help_subcommand.ensures c.version-bare.ensures in
    let helps = c.with_command-helps.ensures _ _ bare c.begin_line.ensures.line in
    c.with_command.ensures _ _ helps c.begin_line-2.ensures.line
