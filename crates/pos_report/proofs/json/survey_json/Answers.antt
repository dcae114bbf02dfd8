use Rattle.std.proofs.Common.{◌≡◌, ◌≤◌, ◌∙◌, ap, false, refl, rules, string_bytes, subst, sym}
use Rattle.std.specs.Prelude.{Some}
use Rattle.serde_json.specs.Data.{depth}
use Rattle.serde_json.specs.Read.{read}
use Rattle.serde_json.specs.View.{view}
use Rattle.serde_json.specs.Written.{compact_text, has_float}
use Rattle.pos_report.specs.Json.{survey_data}
use Rattle.pos_report.proofs.ValueLemmas.{no_float, shallow}
use Rattle.pos_report.proofs.json.survey_json.Goals as goal

pub returns : goal.returns
returns c =
    let it = c.args.survey.now in
    let value = c.in_ok-survey_value.ensures in
    let none : has_float (view c.in_ok-survey_value.field-0) ≡ false = ap has_float value ∙ no_float it it.room refl in
    let written : string_bytes c.in_ok-json.json ≡ compact_text (survey_data it) = search (rules, none, value) in
    let back = c.in_ok-json.ensures.reads_back (subst (λ d. depth d ≤ 127) (sym value) (shallow it it.room refl)) in
    record {
      text_is = search (rules, written);
      reads = ap read (sym written) ∙ back ∙ ap Some value;
    }
