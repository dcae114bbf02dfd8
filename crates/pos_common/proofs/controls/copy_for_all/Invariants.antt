use Rattle.pos_common.proofs.Common.{All, HasRoom, Scan, controls_of, copies_from, drop, input_events, take, ◌++◌, ◌≡◌}
use Rattle.pos_common.proofs.controls.copy_for_all.Given as goal

-- The controls before the number have room, and to the machine all controls are as they were. These copies and those
-- for the other controls are all.
abbrev pub invariant-loop-number : goal.invariant-loop-number
invariant-loop-number l =
    let scan : Scan = record { kind = l.kind; bytes = l.bytes; label = l.label } in
    let before = controls_of l.fn.controls in
    record {
      same : controls_of l.controls ≡ before;
      room : All (HasRoom l.place input_events) (take l.number l.controls);
      copies : l.copies.items ++ copies_from l.number scan l.place (drop l.number before)
          ≡ copies_from 0 scan l.place before;
    }
