use Rattle.std.proofs.Common.{◌≡◌, ◌∙◌, ◌++◌, [], ℕ, List, append_assoc, append-nil}
use Rattle.std.specs.Prelude.{codes}
use Rattle.pos_script.specs.Glyphs.{printed_text}
use Rattle.pos_script.specs.ReceiptText.{items_text}
use Rattle.pos_script.proofs.WriteLemmas.{behind_two, failed_between, failed_front}
use Rattle.pos_script.proofs.receipt.write_receipt.Goals as goal

-- the parts of the text one after another, those in front together
receipt_line : (cover s left text : List ℕ)
    → cover ++ (s ++ (left ++ (s ++ text))) ≡ (cover ++ (s ++ (left ++ (s ++ [])))) ++ text
receipt_line cover s left text = simp (append_assoc, append-nil)

pub returns-in_err-write_parts : goal.returns-in_err-write_parts
returns-in_err-write_parts g c =
    let text = printed_text c.args.receipt.now.buffer ++ items_text c.args.receipt.now.items in
    let line = receipt_line c.word_of-cover.result.now (codes " ") c.format-left.result.now text in
    rw (
      ← c.is_cover_open.ensures,
      ← c.word_of-cover.ensures,
      ← c.lines_left.ensures,
      ← c.format-left.ensures.text,
      line,
    ) (failed_front _ _ _ _ c.from_residual.ensures.1 c.in_err-write_parts.ensures)

pub returns-in_err-write_printed : goal.returns-in_err-write_printed
returns-in_err-write_printed g c =
    let text = printed_text c.args.receipt.now.buffer ++ items_text c.args.receipt.now.items in
    let line = receipt_line c.word_of-cover.result.now (codes " ") c.format-left.result.now text in
    rw (
      ← c.is_cover_open.ensures,
      ← c.word_of-cover.ensures,
      ← c.lines_left.ensures,
      ← c.format-left.ensures.text,
      line,
    ) (failed_between _ _ _ _ _ c.from_residual-in_err-write_printed.ensures.1 c.in_ok-write_parts.ensures
    (rw (c.line_buffer.ensures ∙ c.printed.ensures.buffer) at c.in_err-write_printed.ensures))

pub returns : goal.returns
returns g c =
    let text = printed_text c.args.receipt.now.buffer ++ items_text c.args.receipt.now.items in
    let line = receipt_line c.word_of-cover.result.now (codes " ") c.format-left.result.now text in
    rw (
      ← c.is_cover_open.ensures,
      ← c.word_of-cover.ensures,
      ← c.lines_left.ensures,
      ← c.format-left.ensures.text,
      line,
    ) (behind_two _ _ _ _ _ _ c.in_ok-write_parts.ensures (rw (c.line_buffer.ensures ∙ c.printed.ensures.buffer) at
    c.in_ok-write_printed.ensures) (rw c.printed.ensures.items at c.write_items.ensures))
