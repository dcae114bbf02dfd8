use Rattle.std.proofs.Common.{◌++◌, ◌∙◌, ap, append_assoc, refl, sym, take}
use Rattle.std.specs.Prelude.{slice_get}
use Rattle.pos_report.specs.Dump.{difference, differences}
use Rattle.pos_report.proofs.ValueLemmas.{one_text_more}
use Rattle.pos_report.proofs.dump.put_differences.Goals as goal

pub loop-index-preserved : goal.loop-index-preserved
loop-index-preserved c =
    let files = c.args.first.now.files in
    let i = c.loop-index.index in
    let name = c.in-Some-Some.name.now in
    let bytes = c.in-Some-Some.bytes.now in
    let text = (difference c.args.other.now.files) name bytes in
    let before = differences (take i files) c.args.other.now.files in
    c.in_ok-put_difference.ensures ∙ ap (λ t. t ++ text) c.loop-index.invariant ∙ append_assoc c.args.text.now.items
    before text ∙ ap (λ t. c.args.text.now.items ++ t) (sym (one_text_more (difference c.args.other.now.files) files i
    name bytes (slice_get files i) refl c.in-Some-Some.ensures c.in-Some-Some.ensures'))
