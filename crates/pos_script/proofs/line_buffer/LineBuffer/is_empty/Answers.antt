use Rattle.std.proofs.Common.{◌∙◌, ap, sym, eqb, length}
use Rattle.pos_script.specs.LineBuffers.{is_kept_nothing, kept_from}
use Rattle.pos_script.proofs.BufferLemmas.{input_ends, nothing_long}
use Rattle.pos_script.proofs.line_buffer.LineBuffer.is_empty.Goals as goal

pub returns-in-Some-clause-end : goal.returns-in-Some-clause-end
returns-in-Some-clause-end c read stands = input_ends read
    (ap is_kept_nothing (sym (ap (kept_from c.self.inside.bytes.items) c.in-Some.is) ∙ c.self.view_is)) stands

pub returns-in-None-clause-end : goal.returns-in-None-clause-end
returns-in-None-clause-end c read stands =
    let nothing = c.is_empty.ensures ∙ ap (λ bs. eqb (length bs) 0) c.as_slice.ensures.value
    ∙ nothing_long c.self.inside.bytes.items in
    let view = ap (kept_from c.self.inside.bytes.items) c.in-None.is in
    input_ends read (nothing ∙ ap is_kept_nothing (sym view ∙ c.self.view_is)) stands
