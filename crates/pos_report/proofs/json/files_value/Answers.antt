use Rattle.std.proofs.Common.{◌≡◌, ◌++◌, ◌∷◌, ◌∙◌, [], ap, map, refl, rules, sym, take}
use Rattle.std.specs.Prelude.{slice_get}
use Rattle.std.proofs.lemmas.List.{map-append, take_all}
use Rattle.serde_json.proofs.Views.{view-Array}
use Rattle.serde_json.specs.Data.{array}
use Rattle.serde_json.specs.View.{items_of, view}
use Rattle.pos_report.specs.Json.{file_data}
use Rattle.pos_report.proofs.ValueLemmas.{one_value_more, value_of}
use Rattle.pos_report.proofs.json.files_value.Goals as goal

pub loop-index-preserved : goal.loop-index-preserved
loop-index-preserved c =
    let files = c.args.directory.now.files in
    let i = c.loop-index.index in
    let name = c.in-Some-Some.name.now in
    let bytes = c.in-Some-Some.bytes.now in
    let pushed : map view c.push.new.self.items ≡ map view c.loop-index.files.items
    ++ view c.in_ok-file_value.field-0 ∷ [] = ap (map view) c.in_ok-push.ensures.items
    ∙ map-append view c.loop-index.files.items (c.in_ok-file_value.field-0 ∷ []) in
    pushed ∙ ap (λ d. map view c.loop-index.files.items ++ d ∷ []) c.in_ok-file_value.ensures
    ∙ ap (λ ds. ds ++ file_data name bytes ∷ []) c.loop-index.invariant
    ∙ sym (one_value_more files i name bytes (slice_get files i) refl c.in-Some-Some.ensures c.in-Some-Some.ensures')

pub returns : goal.returns
returns c =
    let files = c.args.directory.now.files in
    let all : take c.loop-index.index files ≡ files = take_all c.loop-index.index files (search rules) in
    view-Array c.loop-index.files ∙ ap (λ ds. array (items_of ds)) (c.loop-index.invariant ∙ ap (map value_of) all)
