use Rattle.pos_common.proofs.Common.{All, HasRoom, controls_of, drop, heard_signs, if_listening, map, sign_events, take}
use Rattle.pos_common.proofs.Common.{ℕ, ◌++◌, ◌+◌, ◌≡◌}
use Rattle.pos_common.proofs.controls.hear_all.Given as goal

-- the controls before the place have heard, and the others have room; what was more than that is left
abbrev pub invariant-loop-control : goal.invariant-loop-control
invariant-loop-control l =
    let before = controls_of l.fn.controls in
    record {
      heard : controls_of l.controls ≡ map (if_listening l.place (heard_signs l.old l.new))
          (take l.control-index before) ++ drop l.control-index before;
      room : All (HasRoom l.place sign_events) (drop l.control-index l.controls);
      left : (count : ℕ) → All (HasRoom l.place (sign_events + count)) l.fn.controls
          → All (HasRoom l.place count) (take l.control-index l.controls)
          × All (HasRoom l.place (sign_events + count)) (drop l.control-index l.controls);
    }
