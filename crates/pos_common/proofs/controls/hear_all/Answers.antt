use Rattle.pos_common.proofs.Common.{HasRoom, arith, heard_signs, if_listening, length, sign_events, take_all, ◌+◌, ◌<◌}
use Rattle.pos_common.proofs.KeptLemmas.{mapped_more, first_of_rest, rest_after_set, front_after_set}
use Rattle.pos_common.proofs.RoomLemmas.{room_left}
use Rattle.pos_common.proofs.controls.hear_all.Goals as goal

pub loop-control-preserved : goal.loop-control-preserved
loop-control-preserved c =
    let hs = c.loop-control.controls in
    let place = c.args.place in
    let lt : c.loop-control.control-index < length hs = omega arith in
    record {
      heard = mapped_more (if_listening place (heard_signs c.args.old c.args.new)) c.args.controls.now hs _
          c.control-item.result _ lt c.hear.ensures.heard c.loop-control.invariant.heard (omega arith);
      room = rest_after_set (HasRoom place sign_events) hs _ _ lt c.loop-control.invariant.room;
      left = λ count all.
          let so_far = c.loop-control.invariant.left count all in
          let before = first_of_rest (HasRoom place (sign_events + count)) hs _ c.control-item.result lt so_far.1 in (
            front_after_set (HasRoom place count) hs _ _ lt
                (room_left place c.args.old c.args.new _ c.hear.ensures.heard c.hear.ensures.room before) so_far.0,
            rest_after_set (HasRoom place (sign_events + count)) hs _ _ lt so_far.1,
          );
    }

pub returns-clause-room : goal.returns-clause-room
returns-clause-room c = λ count all. grind (arith, take_all, c.loop-control.invariant.left count all)
