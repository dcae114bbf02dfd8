use Rattle.std.proofs.Common.{◌++◌, take, refl, sym, ap, ◌∙◌, append_assoc}
use Rattle.std.specs.Prelude.{slice_get}
use Rattle.pos_survey.specs.Texts.{file_text, files_text}
use Rattle.pos_survey.proofs.LineLemmas.{one_file_more}
use Rattle.pos_survey.proofs.text.put_files.Goals as goal

pub loop-index-preserved : goal.loop-index-preserved
loop-index-preserved c =
    let files = c.args.directory.now.files in
    let i = c.loop-index.index in
    let name = c.in-Some-Some.name.now in
    let bytes = c.in-Some-Some.bytes.now in
    c.in_ok-put_file.ensures ∙ ap (λ t. t ++ file_text name bytes) c.loop-index.invariant ∙ append_assoc
    c.args.text.now.items (files_text (take i files)) (file_text name bytes) ∙ ap (λ t. c.args.text.now.items ++ t)
    (sym (one_file_more files i name bytes (slice_get files i) refl c.in-Some-Some.ensures c.in-Some-Some.ensures'))
