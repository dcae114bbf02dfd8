use Rattle.std.proofs.Common.{◌≡◌, ◌∙◌, true, sym, drop, arith}
use Rattle.pos_service.specs.Receipts.{starts_with, is_upper}
use Rattle.pos_service.proofs.PieceLemmas.{at_sequence, begins_at}
use Rattle.pos_service.proofs.receipt_text.sequence_token.Goals as goal

pub returns-clause-pieces : goal.returns-clause-pieces
returns-clause-pieces c =
    let bs = c.args.bytes.now in
    let k = c.count_inner-inner.result in
    let at : starts_with is_upper (drop k bs) ≡ true =
    begins_at is_upper bs k (omega arith) ∙ sym c.is_upper_byte.ensures ∙ c.if-not-is_upper_byte.false in
    at_sequence bs k c.count_inner-inner.ensures.count at ∙ cc
