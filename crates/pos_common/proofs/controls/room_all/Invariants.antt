use Rattle.pos_common.proofs.Common.{All, HasRoom, controls_of, drop, take, ◌≡◌}
use Rattle.pos_common.proofs.controls.room_all.Given as goal

-- the controls before the place have room, the others are as they were, and to the machine all are
abbrev pub invariant-loop-control : goal.invariant-loop-control
invariant-loop-control l = record {
  same : controls_of l.controls ≡ controls_of l.fn.controls;
  room : All (HasRoom l.place l.count) (take l.control-index l.controls);
  rest : drop l.control-index l.controls ≡ drop l.control-index l.fn.controls;
}
