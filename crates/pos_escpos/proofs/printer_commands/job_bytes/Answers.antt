use Rattle.std.proofs.Common.{arith, rules, ◌<◌, ◌/◌, ◌%◌}
use Rattle.std.specs.Prelude.{slice_index_or}
use Rattle.pos_escpos.proofs.PrinterLemmas.{takes_job_end}
use Rattle.pos_escpos.proofs.printer_commands.job_bytes.Goals as goal

pub returns-clause-asks : goal.returns-clause-asks
returns-clause-asks c width press whole =
    let bytes = c.to_be_bytes.result in
    let high : slice_index_or bytes 0 0 < 256 = search rules in
    let low : slice_index_or bytes 1 0 < 256 = search rules in
    takes_job_end width (slice_index_or bytes 0 0 / 16) (slice_index_or bytes 0 0 % 16)
    (slice_index_or bytes 1 0 / 16) (slice_index_or bytes 1 0 % 16) press (omega arith) (omega arith) (omega arith)
    (omega arith) whole
