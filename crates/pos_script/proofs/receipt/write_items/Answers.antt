use Rattle.std.proofs.Common.{◌∙◌, ◌++◌, ap, sym, append_assoc, take}
use Rattle.std.specs.Prelude.{codes}
use Rattle.pos_streams.proofs.StreamLemmas.{Appends-trans}
use Rattle.pos_service.specs.Receipts.{Line, CutAt}
use Rattle.pos_script.specs.ReceiptText.{item_text}
use Rattle.pos_script.proofs.WriteLemmas.{failed_between}
use Rattle.pos_script.proofs.ReceiptLemmas.{text_at}
use Rattle.pos_script.proofs.receipt.write_items.Goals.{in-Line+in_ok-write_line-in-Line, in-Cut+in_ok-write_cut-in-Cut}
use Rattle.pos_script.proofs.receipt.write_items.Goals as goal

pub returns-in_err-write_line-in-Line : goal.returns-in_err-write_line-in-Line
returns-in_err-write_line-in-Line g c =
    let more = text_at c.args.marks.now _ c.loop-mark.rest.now c.loop-mark-test.true c.in-Line.is in
    rw (c.loop-mark.invariant.2, more) (failed_between _ _ _ _ _ c.from_residual.ensures.1 c.loop-mark.invariant.1
    (rw c.split_line.ensures.line at c.in_err-write_line-in-Line.ensures))

pub returns-in_err-write_cut-in-Cut : goal.returns-in_err-write_cut-in-Cut
returns-in_err-write_cut-in-Cut g c =
    let more = text_at c.args.marks.now _ c.loop-mark.rest.now c.loop-mark-test.true c.in-Cut.is in
    rw (c.loop-mark.invariant.2, more) (failed_between _ _ _ _ _ c.from_residual-in_err-write_cut-in-Cut.ensures.1
    c.loop-mark.invariant.1 c.in_err-write_cut-in-Cut.ensures)

pub loop-mark-preserved : goal.loop-mark-preserved
loop-mark-preserved g c =
    let marks = c.args.marks.now in
    let before = c.loop-mark.invariant in
    elim c.match-mark.branch [
      | in-Line+in_ok-write_line-in-Line w ↦
          let count = w.in-Line.count in
          let more = text_at marks _ c.loop-mark.rest.now c.loop-mark-test.true w.in-Line.is in
          let item = codes " " ++ item_text (Line w.in-Line.alignment (take count c.loop-mark.rest.now)) in
          let written = rw w.split_line.ensures.line at w.in_ok-write_line-in-Line.ensures in
          rw (w.writer-is, w.rest-is, w.split_line.ensures.rest) (
            before.0 ++ item,
            Appends-trans _ _ _ before.0 item before.1 written,
            before.2 ∙ ap (λ x. before.0 ++ x) more ∙ sym (append_assoc before.0 item _),
          )
      | in-Cut+in_ok-write_cut-in-Cut w ↦
          let more = text_at marks _ c.loop-mark.rest.now c.loop-mark-test.true w.in-Cut.is in
          let item = codes " " ++ item_text (CutAt w.in-Cut.percentage) in
          rw (w.writer-is, w.rest-is) (
            before.0 ++ item,
            Appends-trans _ _ _ before.0 item before.1 w.in_ok-write_cut-in-Cut.ensures,
            before.2 ∙ ap (λ x. before.0 ++ x) more ∙ sym (append_assoc before.0 item _),
          )
    ]
