use Rattle.std.proofs.Common.{◌++◌, ◌∙◌, ap, append_assoc, refl, sym, take}
use Rattle.std.specs.Prelude.{slice_get}
use Rattle.pos_report.specs.Dump.{all_alone, alone}
use Rattle.pos_report.proofs.ValueLemmas.{one_name_more}
use Rattle.pos_report.proofs.dump.put_all_alone.Goals as goal

pub loop-index-preserved : goal.loop-index-preserved
loop-index-preserved c =
    let files = c.args.second.now.files in
    let i = c.loop-index.index in
    let name = c.in-Some.name.now in
    let text = (alone c.args.other.now.files) name in
    let before = all_alone (take i files) c.args.other.now.files in
    c.in_ok-put_alone.ensures ∙ ap (λ t. t ++ text) c.loop-index.invariant ∙ append_assoc c.args.text.now.items before
    text ∙ ap (λ t. c.args.text.now.items ++ t) (sym (one_name_more (alone c.args.other.now.files) files i name
    (slice_get files i) refl c.in-Some.ensures))
