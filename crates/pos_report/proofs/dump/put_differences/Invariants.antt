use Rattle.std.proofs.Common.{◌≡◌, ◌++◌, take}
use Rattle.pos_report.specs.Dump.{differences}
use Rattle.pos_report.proofs.dump.put_differences.Given as goal

abbrev pub invariant-loop-index : goal.invariant-loop-index
invariant-loop-index l = l.text.items ≡ l.fn.text.items ++ differences (take l.index l.first.files) l.other.files
