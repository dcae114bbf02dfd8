use Rattle.pos_common.proofs.Common.{HasRoom, KeptControl, arith, controls_of, drop_more, input_events, length-map}
use Rattle.std.proofs.lemmas.List.{append_assoc}
use Rattle.pos_common.proofs.KeptLemmas.{control_at, front_after_set, same_control}
use Rattle.pos_common.proofs.controls.copy_for_all.Goals as goal
use Rattle.pos_common.proofs.controls.copy_for_all.Goals.{then-listens+in_ok-room+in_ok-reserve+in_ok-copy_of, else-listens}

pub loop-number-preserved : goal.loop-number-preserved
loop-number-preserved c =
    let hs = c.loop-number.controls in
    let i = c.loop-number.number in
    let d = c.index-controls-number.result in
    let at = control_at hs i d d.control in
    let count = length-map hs (λ (h : KeptControl). h.control) in
    let roomy = front_after_set (HasRoom c.args.place input_events) hs in
    let next = drop_more (controls_of hs) i d.control in
    elim c.if-listens.branch [
      | then-listens+in_ok-room+in_ok-reserve+in_ok-copy_of w ↦
          grind (arith, w, at, count, next, append_assoc, same_control hs, roomy)
      | else-listens w ↦ grind (arith, w, at, count, next, same_control hs, roomy)
    ]
