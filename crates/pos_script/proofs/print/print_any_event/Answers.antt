use Rattle.pos_script.proofs.print.print_any_event.Goals as goal

pub returns-in-StatusUpdate : goal.returns-in-StatusUpdate
returns-in-StatusUpdate g c = rw (c.in-StatusUpdate.is, ← c.format.ensures.text) c.write_parts.ensures

pub returns-in-Data : goal.returns-in-Data
returns-in-Data g c = rw c.in-Data.is c.write_parts-in-Data.ensures
