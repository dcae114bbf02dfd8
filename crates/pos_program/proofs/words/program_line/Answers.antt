use Rattle.pos_program.proofs.ParseLemmas.{bare}
use Rattle.pos_program.proofs.words.program_line.Goals as goal

pub returns : goal.returns
returns c =
    let started = bare _ _ _ _ c.new.ensures.app c.new.ensures.local c.no_binary_name-bare.ensures
    c.disable_help_subcommand-plain.ensures c.subcommand_required-started.ensures in
    let runs = c.with_command-runs.ensures _ _ started c.run_line.ensures in
    let formats = c.with_command-formats.ensures _ _ runs c.disk_line.ensures in
    let migrates = c.with_command-migrates.ensures _ _ formats c.disk_line-2.ensures in
    c.with_command.ensures _ _ migrates c.disk_line-3.ensures
