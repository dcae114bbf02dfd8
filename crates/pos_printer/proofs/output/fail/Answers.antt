use Rattle.pos_service.specs.Controls.{output_failed}
use Rattle.pos_common.proofs.ChangeLemmas.{changed_at}
use Rattle.pos_printer.proofs.output.fail.Goals as goal

pub returns-clause-failed : goal.returns-clause-failed
returns-clause-failed c = changed_at (output_failed c.args.code c.args.extended) c.args.controls.now c.args.holder
    c.index-controls-holder.result _ c.requires.within c.fail_request.ensures
