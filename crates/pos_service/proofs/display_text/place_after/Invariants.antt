use Rattle.std.proofs.Common.{◌≡◌, ◌<◌, ◌≤◌, take}
use Rattle.pos_service.specs.Displays.{place_in_window, text_from}
use Rattle.pos_service.proofs.display_text.place_after.Given as goal

abbrev pub invariant-loop-byte : goal.invariant-loop-byte
invariant-loop-byte l = record {
  follows : l.place ≡ place_in_window l.rows (text_from l.columns l.fn.start (take l.byte-index l.bytes)).place;
  row : l.place.row < l.rows;
  column : l.place.column ≤ l.columns;
}
