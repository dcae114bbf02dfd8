use Rattle.std.proofs.Common.{◌≡◌, ◌++◌, take}
use Rattle.pos_report.specs.Dump.{all_alone}
use Rattle.pos_report.proofs.dump.put_all_alone.Given as goal

abbrev pub invariant-loop-index : goal.invariant-loop-index
invariant-loop-index l = l.text.items ≡ l.fn.text.items ++ all_alone (take l.index l.second.files) l.other.files
