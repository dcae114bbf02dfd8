use Rattle.pos_common.proofs.Common.{HasRoom, arith, failed, fault_events, if_listening}
use Rattle.pos_common.proofs.KeptLemmas.{mapped_more, rest_after_set}
use Rattle.pos_common.proofs.controls.fail_all.Goals as goal

pub loop-control-preserved : goal.loop-control-preserved
loop-control-preserved c =
    let hs = c.loop-control.controls in
    let mapped = mapped_more (if_listening c.args.place failed) c.args.controls.now hs c.loop-control.control-index
    c.control-item.result in
    grind (arith, mapped, rest_after_set (HasRoom c.args.place fault_events) hs c.loop-control.control-index)
