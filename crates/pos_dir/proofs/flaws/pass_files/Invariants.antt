use Rattle.pos_dir.proofs.Common.{File, List, Some, are_distinct, file_at, items_at, length, total_size, true, ◌+◌, ◌≡◌}
use Rattle.pos_dir.proofs.flaws.pass_files.Given as goal

abbrev pub invariant-loop-i : goal.invariant-loop-i
invariant-loop-i l = record {
  files : List File;
  count : length files ≡ l.i;
  read : items_at file_at (length files) l.text ≡ Some (files, l.rest);
  room : l.left + total_size files ≡ l.room;
  distinct : are_distinct files ≡ true;
}
