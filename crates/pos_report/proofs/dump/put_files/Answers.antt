use Rattle.std.proofs.Common.{◌++◌, ◌∙◌, ap, append_assoc, refl, sym, take}
use Rattle.std.specs.Prelude.{slice_get}
use Rattle.pos_report.specs.Dump.{dump_line, dump_lines}
use Rattle.pos_report.proofs.ValueLemmas.{one_text_more}
use Rattle.pos_report.proofs.dump.put_files.Goals as goal

pub loop-index-preserved : goal.loop-index-preserved
loop-index-preserved c =
    let files = c.args.directory.now.files in
    let i = c.loop-index.index in
    let name = c.in-Some-Some.name.now in
    let bytes = c.in-Some-Some.bytes.now in
    let text = (dump_line) name bytes in
    let before = dump_lines (take i files) in
    c.in_ok-put_file.ensures ∙ ap (λ t. t ++ text) c.loop-index.invariant ∙ append_assoc c.args.text.now.items before
    text ∙ ap (λ t. c.args.text.now.items ++ t) (sym (one_text_more (dump_line) files i name bytes (slice_get files i)
    refl c.in-Some-Some.ensures c.in-Some-Some.ensures'))
