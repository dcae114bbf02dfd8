use Rattle.pos_escpos.proofs.InputLemmas.{drawer_told}
use Rattle.pos_escpos.proofs.inputs.drawer_inputs.Goals as goal

pub returns-clause-shows : goal.returns-clause-shows
returns-clause-shows c old new fits is taken = drawer_told c.args.sensors old c.args.status new fits is
    (rw (c.power_input.ensures, c.drawer_input.ensures, c.open_told.ensures) at taken)
