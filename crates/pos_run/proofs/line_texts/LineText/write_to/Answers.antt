use Rattle.pos_run.proofs.Common.{Writes, subst, sym, ◌++◌, ◌∙◌, ap}
use Rattle.pos_run.proofs.WaitingLemmas.{cut_more, whole_text}
use Rattle.pos_script.proofs.WriteLemmas.{behind}
use Rattle.pos_script.specs.Writing.{IsCut}
use Rattle.pos_streams.specs.Transfers.{given_to}
use Rattle.pos_run.proofs.line_texts.LineText.write_to.Goals as goal

pub returns-in_default : goal.returns-in_default
returns-in_default g c =
    let old = g.W.Sink.given c.args.writer.now in
    let new = g.W.Sink.given c.write_bytes-2.new.writer in
    let rest = (given_to c.args.self.now.rest).bytes in
    subst (IsCut old new) (ap (λ first. first ++ rest) c.as_slice.ensures
    ∙ sym (whole_text c.args.self.now c.if-self-lt-SHORT.false))
    (cut_more old new rest c.in_default.ensures)

pub returns : goal.returns
returns g c =
    let old = g.W.Sink.given c.args.writer.now in
    let mid = g.W.Sink.given c.write_bytes-2.new.writer in
    let new = g.W.Sink.given c.write_bytes-3.new.writer in
    let first = c.as_slice.result.now in
    let rest = c.as_slice-2.result.now in
    subst (λ text. Writes old new text c.write_bytes-3.result) (ap (λ xs. xs ++ rest) c.as_slice.ensures
    ∙ ap (λ xs. c.args.self.now.first ++ xs) c.as_slice-2.ensures
    ∙ sym (whole_text c.args.self.now c.if-self-lt-SHORT.false))
    (behind old mid new first rest c.write_bytes-3.result c.in-Ok.ensures c.write_bytes-3.ensures)
