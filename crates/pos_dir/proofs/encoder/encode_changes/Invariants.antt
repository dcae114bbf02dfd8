use Rattle.pos_dir.proofs.Common.{change_spelling, drop, flat_map, length, take, to_be_bytes, vec_capacity, vec_len}
use Rattle.pos_dir.proofs.Common.{w16, ◌++◌, ◌+◌, ◌≡◌, ◌≤◌}
use Rattle.pos_dir.proofs.encoder.encode_changes.Given as goal

abbrev pub invariant-loop-change : goal.invariant-loop-change
invariant-loop-change l = record {
  items : l.out.items ≡ to_be_bytes w16 (length l.changes) ++ flat_map change_spelling (take l.change-index l.changes);
  room : vec_len l.out + length (flat_map change_spelling (drop l.change-index l.changes)) ≤ vec_capacity l.out;
}
