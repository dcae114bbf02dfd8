use Rattle.std.proofs.Common.{◌≡◌, ◌++◌, take}
use Rattle.pos_report.specs.Dump.{dump_lines}
use Rattle.pos_report.proofs.dump.put_files.Given as goal

abbrev pub invariant-loop-index : goal.invariant-loop-index
invariant-loop-index l = l.text.items ≡ l.fn.text.items ++ dump_lines (take l.index l.directory.files)
