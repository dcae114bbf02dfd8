use Rattle.pos_common.proofs.Common.{All-drop, HasRoom, arith, take_all}
use Rattle.std.proofs.lemmas.Result.{err_from_is_err_and}
use Rattle.pos_common.proofs.KeptLemmas.{same_control, front_after_set, first_of_rest, same_rest}
use Rattle.pos_common.proofs.controls.room_all.Goals as goal

pub loop-control-preserved : goal.loop-control-preserved
loop-control-preserved c =
    let hs = c.loop-control.controls in
    grind (
      arith,
      same_control hs,
      front_after_set (HasRoom c.args.place c.args.count) hs,
      same_rest hs c.args.controls.now,
    )

pub returns-in_err-room_for-clause-same : goal.returns-in_err-room_for-clause-same
returns-in_err-room_for-clause-same c = grind (arith, same_control c.loop-control.controls)

pub returns-in_err-room_for-clause-full : goal.returns-in_err-room_for-clause-full
returns-in_err-room_for-clause-full c =
    let P = HasRoom c.args.place c.args.count in
    let p = err_from_is_err_and c.from_residual.result c.from_residual.ensures.1 in
    let left = All-drop P c.loop-control.control-index c.args.controls.now in
    rw p.1 (λ all. grind (
      arith,
      left all,
      first_of_rest P c.loop-control.controls c.loop-control.control-index c.control-item.result,
    ))

pub returns-clause-room : goal.returns-clause-room
returns-clause-room c = grind (arith, take_all)
