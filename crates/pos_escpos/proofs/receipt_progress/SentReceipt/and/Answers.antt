use Rattle.std.proofs.Common.{arith}
use Rattle.pos_escpos.proofs.ProgressLemmas.{sent_more}
use Rattle.pos_escpos.proofs.receipt_progress.SentReceipt.and.Goals as goal

pub returns : goal.returns
returns c before sent marks_fit characters_fit =
    let count = c.line_characters-count.ensures in
    sent_more before c.args.marks.now c.args.characters.now sent
    (omega (arith, c.saturating_add.ensures)) (omega (arith, c.saturating_add-2.ensures, count.count, count.most))
