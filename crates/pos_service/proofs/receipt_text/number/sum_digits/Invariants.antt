use Rattle.std.proofs.Common.{◌≡◌, min, take}
use Rattle.pos_service.specs.Receipts.{number_of}
use Rattle.pos_service.proofs.receipt_text.number.sum_digits.Given as goal

abbrev pub invariant-loop-digit : goal.invariant-loop-digit
invariant-loop-digit l = l.number ≡ min (number_of (take l.digit-index l.digits)) 1000
