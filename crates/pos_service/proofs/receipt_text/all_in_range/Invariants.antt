use Rattle.std.proofs.Common.{◌≡◌, length}
use Rattle.std.specs.List.{list_all}
use Rattle.pos_service.specs.Receipts.{is_in_range, pieces}
use Rattle.pos_service.proofs.receipt_text.all_in_range.Given as goal

abbrev pub invariant-loop-rest : goal.invariant-loop-rest
invariant-loop-rest l = list_all is_in_range (pieces l.bytes) ≡ list_all is_in_range (pieces l.rest)

abbrev pub decreases-loop-rest : goal.decreases-loop-rest
decreases-loop-rest l = length l.rest
