use Rattle.std.proofs.Common.{◌≡◌, drop}
use Rattle.pos_service.specs.Receipts.{buffer_from}
use Rattle.pos_script.proofs.receipt.line_buffer.Given as goal

abbrev pub invariant-loop-mark : goal.invariant-loop-mark
invariant-loop-mark l = buffer_from l.marks l.characters ≡ buffer_from (drop l.mark-index l.marks) l.rest
