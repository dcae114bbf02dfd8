use Rattle.pos_program.proofs.ReadLemmas.{are_read}
use Rattle.pos_program.proofs.totals_file.read_totals.Goals as goal

pub returns-clause-read : goal.returns-clause-read
returns-clause-read g c = are_read g.S.File.BlockFile c.in_ok-open_file.field-0 c.in_ok-disk.disk
    c.in_ok-open_file.ensures.new c.in_ok-disk.ensures c.mirrored.result c.mirrored.ensures.mirrors
