use Rattle.pos_service.specs.Actions.{changed}
use Rattle.pos_common.proofs.ChangeLemmas.{changed_at}
use Rattle.pos_common.proofs.actions.change_one.Goals as goal

pub returns : goal.returns
returns c = changed_at (changed c.args.change) c.args.controls.now c.args.number c.index-controls-number.result _
    c.requires c.change.ensures
