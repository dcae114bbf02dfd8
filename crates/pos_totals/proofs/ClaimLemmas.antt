-- Claims: the tags with other claims are those of the files with other claims.
use Rattle.pos_totals.proofs.Common.{Arranges, ClaimRequest, File, Holdings, IfSome, IsSound, Layout, LetsThroughAt}
use Rattle.pos_totals.proofs.Common.{List, None, Ok, Option, PlainFile, Ready, State, StoreOff, StoreReady, FileTag}
use Rattle.pos_totals.proofs.Common.{ClaimScope, [], after_arrangement, ap, arith, arrangement_by, claim_after, claimed}
use Rattle.pos_totals.proofs.Common.{false, foreign_area, is_foreign, is_meant, length-map, map, mode_of, nat_tests}
use Rattle.pos_totals.proofs.Common.{numbers_of, reclaimed, refl, slice_set, sym, tag_of, totals_at, with_each}
use Rattle.pos_totals.proofs.Common.{with_files, with_tags, without_control, ℕ, ℤ, ◌∙◌, ◌∷◌, ◌≡◌}
use Rattle.std.specs.Prelude.{Bool}
use Rattle.pos_totals.proofs.AreaLemmas.{apart_reclaimed, apart_left}
use Rattle.pos_totals.proofs.BufferLemmas.{holds_so, held_with, none_held}
use Rattle.pos_totals.proofs.OutlineLemmas.{outline, same_buffered}
use Rattle.pos_totals.proofs.PlaceLemmas.{kept}
use Rattle.pos_service.specs.declared.answer.Answer.TheVariants as answer
use Rattle.pos_service.specs.declared.answer.Value.TheVariants as value
use Rattle.pos_totals.specs.declared.handles.ClaimScope.TheVariants as whose

-- ---- other claims

-- the claim of a file is meant
abbrev meets : ClaimScope → File → Bool
meets whose file = is_meant whose (tag_of file)

files_reclaimed : (whose : ClaimScope) (claim : Option ℕ) (tags : List FileTag) (files : List PlainFile)
    → with_tags (map (reclaimed whose claim) tags) files ≡ with_each (meets whose) (claimed claim)
    (with_tags tags files)
files_reclaimed whose claim [] files = refl
files_reclaimed whose claim (tag ∷ tags) [] = refl
files_reclaimed whose claim (tag ∷ tags) (file ∷ files) =
    grind (arith, nat_tests, files_reclaimed whose claim tags files)

-- the handles stay
numbers_reclaimed : (whose : ClaimScope) (claim : Option ℕ) (tags : List FileTag)
    → numbers_of (map (reclaimed whose claim) tags) ≡ numbers_of tags
numbers_reclaimed whose claim [] = refl
numbers_reclaimed whose claim (tag ∷ tags) = grind (arith, nat_tests, numbers_reclaimed whose claim tags)

-- the holdings with other claims
abbrev pub with_claims : Holdings → ClaimScope → Option ℕ → Holdings
with_claims holdings whose claim = record holdings
    { handles = record { given = map (reclaimed whose claim) holdings.handles.given; next = holdings.handles.next } }

-- they are as sound
reclaims : {layout : Layout} (state : State) (tail : ℕ) {holdings : Holdings} (whose : ClaimScope) (claim : Option ℕ)
    → IsSound layout state holdings → IfSome holdings.area (λ holder. is_foreign holder claim ≡ false)
    → (totals_at state tail (with_claims holdings whose claim) ≡ record (totals_at state tail holdings) {
      mode = with_files (with_each (meets whose) (claimed claim)) (mode_of holdings.handles.given state);
    }) × IsSound layout state (with_claims holdings whose claim)
reclaims StoreOff tail whose claim sound own =
    (refl, record { found = tt; handles = tt; buffers = sound.buffers; apart = tt })
reclaims (StoreReady files sequence) tail {holdings} whose claim sound own =
    let tags = holdings.handles.given in
    let xs = with_tags tags files in
    let same = files_reclaimed whose claim tags files in
    let numbers = numbers_reclaimed whose claim tags in (
      ap (λ (fs : List File). record (totals_at (StoreReady files sequence) tail holdings) { mode = Ready fs sequence })
          same,
      record {
        found = sound.found;
        handles = record {
          count = length-map tags (reclaimed whose claim) ∙ sound.handles.count;
          distinct = rw numbers sound.handles.distinct;
          below = rw numbers sound.handles.below;
        };
        buffers = rw same (holds_so xs (with_each (meets whose) (claimed claim) xs) sequence sequence
            holdings.transactions (λ change is. same_buffered xs _ holdings.handles.next change
            (sym (kept outline (meets whose) (claimed claim) xs (λ file. refl))) is) sound.buffers);
        apart = apart_reclaimed whose holdings.area claim tags own sound.apart;
      },
    )

-- ---- the claim of a file

pub claim_changes : {layout : Layout} {state : State} (tail : ℕ) {holdings : Holdings} (control : ℕ) {handle : ℤ}
    (claiming : ClaimRequest) {number : ℕ} → LetsThroughAt (totals_at state tail holdings) control
    (arrangement_by handle claiming) handle (Ok number) → IsSound layout state holdings
    → let later = with_claims holdings (whose.File number) (claim_after control claiming) in
    Arranges (totals_at state tail holdings) control (arrangement_by handle claiming) (answer.Done value.Empty)
    (totals_at state tail later) × IsSound layout state later
claim_changes {state} tail {holdings} control {handle} claiming {number} through sound =
    let passes = through.0 in
    let both =
    reclaims state tail (whose.File number) (claim_after control claiming) sound (grind (arith, nat_tests)) in
    (record { outcome = rw passes (refl, both.0 ∙ after claiming) }, both.1)
  where
    after : (how : ClaimRequest) → record (totals_at state tail holdings) {
      mode = with_files (with_each (meets (whose.File number)) (claimed (claim_after control how)))
          (mode_of holdings.handles.given state);
    } ≡ after_arrangement (totals_at state tail holdings) control (arrangement_by handle how)
    after how = grind (arith, nat_tests)

-- ---- the end of all that a control has

-- the holdings without its claim of the area and its transaction
abbrev pub without : Holdings → ℕ → Holdings
without holdings control = record holdings {
  area = foreign_area control holdings.area;
  transactions = slice_set holdings.transactions control None;
}

pub control_dropped : {layout : Layout} {state : State} (tail : ℕ) {holdings : Holdings} (control : ℕ)
    → IsSound layout state holdings → let later = with_claims (without holdings control) (whose.Control control) None in
    (totals_at state tail later ≡ without_control (totals_at state tail holdings) control) × IsSound layout state later
control_dropped {state} tail {holdings} control sound = reclaims state tail (whose.Control control) None (record {
  found = sound.found;
  handles = sound.handles;
  buffers = held_with (mode_of holdings.handles.given state) holdings.handles.next holdings.transactions control
      None sound.buffers (none_held (mode_of holdings.handles.given state) holdings.handles.next);
  apart = apart_left state holdings.area control holdings.handles.given sound.apart;
}) (grind (arith, nat_tests))
