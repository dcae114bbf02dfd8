use Rattle.pos_common.proofs.Common.{All, HasRoom, controls_of, drop, failed, fault_events, if_listening, map, take}
use Rattle.pos_common.proofs.Common.{◌++◌, ◌≡◌}
use Rattle.pos_common.proofs.controls.fail_all.Given as goal

-- the input of the controls before the place has failed, and the others have room
abbrev pub invariant-loop-control : goal.invariant-loop-control
invariant-loop-control l =
    let before = controls_of l.fn.controls in
    record {
      failed : controls_of l.controls
          ≡ map (if_listening l.place failed) (take l.control-index before) ++ drop l.control-index before;
      room : All (HasRoom l.place fault_events) (drop l.control-index l.controls);
    }
