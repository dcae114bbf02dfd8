use Rattle.std.proofs.Common.{◌≡◌, ◌+◌, ℕ, List, [], ◌∷◌, ◌++◌, map, take, drop, get_or, length, Vec, Global, sym, ap}
use Rattle.std.proofs.Common.{◌∙◌, arith}
use Rattle.std.proofs.lemmas.List.{map_more}
use Rattle.pos_log.proofs.RecordLemmas.{spelling_length}
use Rattle.pos_log.specs.Records.{spelling}
use Rattle.pos_store.proofs.DiskFileLemmas.{applies_more}
use Rattle.pos_survey.proofs.GroupLemmas.{in_three, ends_within, stops}
use Rattle.pos_survey.proofs.records.apply_texts.Goals as goal

pub returns-in-Err-clause-broken : goal.returns-in-Err-clause-broken
returns-in-Err-clause-broken c =
    let item = c.text-item.result in
    let i = c.loop-text.text-index in
    let texts = c.args.texts.now in
    let text_of = λ (t : Vec ℕ Global). t.items in
    stops c.args.directory.now.limits c.args.directory.now.files c.loop-text.directory.files
    (map text_of (take i texts)) (map text_of (drop (i + 1) texts)) item.items c.args.first c.in-Err.fault
    (in_three text_of texts i c.loop-text-test.true c.text-item.is) c.loop-text.invariant.place
    c.loop-text.invariant.applied (rw (c.loop-text.invariant.limits, c.deref.ensures.value) at c.in-Err.ensures.broken)

pub overflow_add-at-in-Ok : goal.overflow_add-at-in-Ok
overflow_add-at-in-Ok c =
    let item = c.text-item.result in
    let i = c.loop-text.text-index in
    let text_of = λ (t : Vec ℕ Global). t.items in
    let within = ends_within (map text_of (take i c.args.texts.now)) (map text_of (drop (i + 1) c.args.texts.now))
    item.items (in_three text_of c.args.texts.now i c.loop-text-test.true c.text-item.is) in
    let place = c.loop-text.invariant.place in
    omega (arith, within, place, c.len.ensures, c.requires)

pub loop-text-preserved : goal.loop-text-preserved
loop-text-preserved c =
    let item = c.text-item.result in
    let i = c.loop-text.text-index in
    let texts = c.args.texts.now in
    let limits = c.args.directory.now.limits in
    let text_of = λ (t : Vec ℕ Global). t.items in
    let before = map text_of (take i texts) in
    let here : item.items ≡ text_of (get_or texts i item) = ap text_of c.text-item.is in
    let more : map text_of (take (i + 1) texts) ≡ before ++ item.items ∷ [] =
    map_more text_of texts i item c.loop-text-test.true ∙ ap (λ (t : List ℕ). before ++ t ∷ []) (sym here) in
    let size = ap (λ (ts : List (List ℕ)). length (spelling ts)) more ∙ spelling_length before item.items in
    let place = c.loop-text.invariant.place in
    let step = rw (c.loop-text.invariant.limits, c.deref.ensures.value) at c.in-Ok.ensures.ok in
    record {
      limits = c.apply_text.ensures.limits ∙ c.loop-text.invariant.limits;
      applied = rw more (applies_more limits before c.args.directory.now.files c.loop-text.directory.files item.items
          c.apply_text.new.directory.files c.loop-text.invariant.applied step);
      place = omega (arith, size, place, c.len.ensures);
    }
