use Rattle.pos_printer.proofs.WorkLemmas.{completed_in}
use Rattle.pos_printer.proofs.output.complete.Goals as goal

pub returns : goal.returns
returns c = completed_in c.args.controls.now c.args.holder c.index-controls-holder.result _ c.complete_request.result
    c.requires.within c.complete_request.ensures.id c.complete_request.ensures.completed
