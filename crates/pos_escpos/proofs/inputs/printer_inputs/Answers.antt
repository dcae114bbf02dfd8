use Rattle.pos_escpos.proofs.InputLemmas.{printer_told}
use Rattle.pos_escpos.proofs.inputs.printer_inputs.Goals as goal

pub returns-clause-shows : goal.returns-clause-shows
returns-clause-shows c chars old new fits is taken = printer_told c.args.sensors chars old c.args.status new fits is
    (rw (c.power_input.ensures, c.cover_input.ensures, c.paper_input.ensures) at taken)
