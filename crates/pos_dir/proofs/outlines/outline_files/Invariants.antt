use Rattle.pos_dir.proofs.Common.{AreOutlines, take}
use Rattle.pos_dir.proofs.outlines.outline_files.Given as goal

abbrev pub invariant-loop-file : goal.invariant-loop-file
invariant-loop-file g l = AreOutlines l.outlines.items (take l.file-index l.files)
