use Rattle.std.proofs.Common.{arith, length, ◌<◌, ◌^◌, ◌≡◌, List, subst, sym}
use Rattle.pos_service.specs.Receipts.{Item}
use Rattle.pos_escpos.specs.ReceiptProgress.{Added}
use Rattle.pos_escpos.proofs.ProgressLemmas.{Behind, behind}
use Rattle.pos_escpos.proofs.receipt_progress.SentReceipt.unsent.Goals as goal

pub returns : goal.returns
returns c =
    let marks = c.printed.result.0.now in
    let characters = c.printed.result.1.now in
    let its : (added : List Item) → Added c.args.receipt.now.items c.args.self added
    → Behind marks characters c.args.self added = λ added h. behind marks characters added
    (subst (λ (items : List Item). Added items c.args.self added) (sym c.printed.ensures.items) h) in
    let marks_fit : length marks < 2 ^ 64 = omega (arith, c.printed.type_inv) in
    let characters_fit : length characters < 2 ^ 64 = omega (arith, c.printed.type_inv) in
    record {
      items = λ added h.
          let all_marks : c.min.result ≡ c.args.self.marks = omega (arith, (its added h).marks_within, c.min.ensures) in
          let all_characters : c.min-2.result ≡ c.args.self.characters =
          omega (arith, (its added h).characters_within, c.min-2.ensures) in
          rw (c.split_at.ensures.back, c.split_at-2.ensures.back, all_marks, all_characters) (its added h).items;
      marks = λ added h. omega (
        arith,
        (its added h).marks_within,
        c.min.ensures,
        c.split_at.ensures.back_len,
        marks_fit,
      );
      characters = λ added h. omega (
        arith,
        (its added h).characters_within,
        c.min-2.ensures,
        c.split_at-2.ensures.back_len,
        characters_fit,
      );
    }
