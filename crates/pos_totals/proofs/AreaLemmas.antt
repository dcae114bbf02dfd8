-- Where a control has claimed the area, no other has claimed a file.
use Rattle.pos_totals.proofs.Common.{AllByRecursion, AreApart, FileChange, Holdings, IfSome, IfSome_then, IsSound}
use Rattle.pos_totals.proofs.Common.{Layout, List, None, Option, PlainFile, Some, State, StoreOff, StoreReady, FileTag}
use Rattle.pos_totals.proofs.Common.{ClaimScope, [], ap, arith, false, foreign_area, given_after, is_area_taken}
use Rattle.pos_totals.proofs.Common.{is_foreign, is_foreign_claim, length, list_any, list_any-map, map, nat_tests}
use Rattle.pos_totals.proofs.Common.{reclaimed, refl, suc, sym, tag_of, tags_from, totals_at, with_tags, zero}
use Rattle.pos_totals.proofs.Common.{ℕ, ◌+◌, ◌∙◌, ◌∷◌, ◌≡◌}
use Rattle.pos_totals.proofs.HandleLemmas.{all_with, all_without}
use Rattle.pos_totals.proofs.PairLemmas.{tags_in}
use Rattle.pos_dir.specs.declared.change.Change.TheVariants as file

-- nobody but the holder has claimed a file
abbrev NoOther : ℕ → List FileTag → Type 0
NoOther holder tags = AllByRecursion (λ tag. is_foreign holder tag.claim ≡ false) tags

abbrev IsApart : Option ℕ → List FileTag → Type 0
IsApart area tags = IfSome area (λ holder. NoOther holder tags)

-- the tags after a change
no_other_after : (holder : ℕ) (tags : List FileTag) (next : ℕ) (made : FileChange) → NoOther holder tags
    → NoOther holder (given_after tags next made)
no_other_after holder tags next (file.Create name size) apart =
    all_with (λ tag. is_foreign holder tag.claim ≡ false) tags apart refl
no_other_after holder tags next (file.Delete index) apart =
    all_without (λ tag. is_foreign holder tag.claim ≡ false) tags index apart
no_other_after holder tags next other apart = apart

pub apart_after : (area : Option ℕ) (tags : List FileTag) (next : ℕ) (made : FileChange) → IsApart area tags
    → IsApart area (given_after tags next made)
apart_after area tags next made apart = IfSome_then area apart (λ holder own. no_other_after holder tags next made own)

-- the tags of files that were found
no_other_new : (holder first count : ℕ) → NoOther holder (tags_from first count)
no_other_new holder first zero = tt
no_other_new holder first (suc count) = (refl, no_other_new holder (first + 1) count)

pub apart_new : (area : Option ℕ) (first count : ℕ) → IsApart area (tags_from first count)
apart_new None first count = tt
apart_new (Some holder) first count = no_other_new holder first count

-- tags have another claim, which isn't that of another than the holder
no_other_reclaimed : (whose : ClaimScope) (holder : ℕ) (claim : Option ℕ) (tags : List FileTag)
    → is_foreign holder claim ≡ false → NoOther holder tags → NoOther holder (map (reclaimed whose claim) tags)
no_other_reclaimed whose holder claim [] own apart = tt
no_other_reclaimed whose holder claim (tag ∷ tags) own apart =
    (grind (arith, nat_tests, apart.0), no_other_reclaimed whose holder claim tags own apart.1)

pub apart_reclaimed : (whose : ClaimScope) (area claim : Option ℕ) (tags : List FileTag)
    → IfSome area (λ holder. is_foreign holder claim ≡ false) → IsApart area tags
    → IsApart area (map (reclaimed whose claim) tags)
apart_reclaimed whose None claim tags own apart = tt
apart_reclaimed whose (Some holder) claim tags own apart = no_other_reclaimed whose holder claim tags own apart

-- the area is no longer claimed by a control
pub apart_left : (state : State) (area : Option ℕ) (control : ℕ) (tags : List FileTag) → AreApart state area tags
    → AreApart state (foreign_area control area) tags
apart_left state area control tags apart = grind (arith, nat_tests)

-- the tags' claims are those of the files
pub foreign_tags : (control : ℕ) (tags : List FileTag) (files : List PlainFile) → length tags ≡ length files
    → list_any (λ tag. is_foreign control tag.claim) tags ≡ list_any (is_foreign_claim control) (with_tags tags files)
foreign_tags control tags files same =
    ap (list_any (λ tag. is_foreign control tag.claim)) (sym (tags_in tags files same))
    ∙ list_any-map tag_of (λ tag. is_foreign control tag.claim) (with_tags tags files)

-- the area is claimed where no other control has claimed a file
no_other_left : (control : ℕ) (tags : List FileTag) → list_any (λ tag. is_foreign control tag.claim) tags ≡ false
    → NoOther control tags
no_other_left control [] none = tt
no_other_left control (tag ∷ tags) none =
    (grind (arith, nat_tests), no_other_left control tags (grind (arith, nat_tests)))

pub sound_claimed : {layout : Layout} (state : State) (tail : ℕ) {holdings : Holdings} {control : ℕ}
    → is_area_taken (totals_at state tail holdings) control ≡ false → IsSound layout state holdings
    → IsSound layout state (record holdings { area = Some control })
sound_claimed StoreOff tail free sound = record { found = tt; handles = tt; buffers = sound.buffers; apart = tt }
sound_claimed (StoreReady files sequence) tail {holdings} {control} free sound = record {
  found = sound.found;
  handles = sound.handles;
  buffers = sound.buffers;
  apart = no_other_left control holdings.handles.given
      (foreign_tags control holdings.handles.given files sound.handles.count ∙ grind (arith, nat_tests, free));
}

-- the same of the files
no_other_file : (holder : ℕ) (tags : List FileTag) (files : List PlainFile) → NoOther holder tags
    → AllByRecursion (λ file. is_foreign_claim holder file ≡ false) (with_tags tags files)
no_other_file holder [] files apart = tt
no_other_file holder (tag ∷ tags) [] apart = tt
no_other_file holder (tag ∷ tags) (file ∷ files) apart = (apart.0, no_other_file holder tags files apart.1)

pub files_apart : (area : Option ℕ) (tags : List FileTag) (files : List PlainFile) → IsApart area tags
    → IfSome area (λ holder. AllByRecursion (λ file. is_foreign_claim holder file ≡ false) (with_tags tags files))
files_apart area tags files apart = IfSome_then area apart (λ holder own. no_other_file holder tags files own)
