use Rattle.pos_dir.proofs.Common.{drop, file_spelling, flat_map, length, take, to_be_bytes, vec_capacity, vec_len, w16}
use Rattle.pos_dir.proofs.Common.{◌++◌, ◌+◌, ◌≡◌, ◌≤◌}
use Rattle.pos_dir.proofs.encoder.put_directory.Given as goal

abbrev pub invariant-loop-file : goal.invariant-loop-file
invariant-loop-file l = record {
  items : l.out.items ≡ to_be_bytes w16 (length l.files) ++ flat_map file_spelling (take l.file-index l.files);
  room : vec_len l.out + length (flat_map file_spelling (drop l.file-index l.files)) ≤ vec_capacity l.out;
}
