-- The tags after a change are those of the files after it, their handles distinct and below the next one.
use Rattle.pos_totals.proofs.Common.{AllByRecursion, AreDistinct, AreHandles, Change, Create, Delete, Edit, File}
use Rattle.pos_totals.proofs.Common.{FileChange, Layout, List, Option, Rename, FileTag, [], ap, arith, drop-nil, edited}
use Rattle.pos_totals.proofs.Common.{file_change, files_after, following, given_after, given_by, handles_of, index_of}
use Rattle.pos_totals.proofs.Common.{is_called, is_create, is_named, lacks, last_number, length, length-map, map-append}
use Rattle.pos_totals.proofs.Common.{map-map, nat_eq, new_tag, next_after, numbers_of, plain, plain_file, refl, remove}
use Rattle.pos_totals.proofs.Common.{suc, sym, tag_of, tags_of, take-nil, value_after, zero, ℕ, ◌&&◌, ◌++◌, ◌+◌, ◌<◌}
use Rattle.pos_totals.proofs.Common.{◌∙◌, ◌∷◌, ◌≡◌}
use Rattle.pos_totals.proofs.EditLemmas.{keeps_handles}
use Rattle.pos_totals.proofs.GroupLemmas.{IsUnrefused, deleted, only_named, map-remove}
use Rattle.pos_totals.proofs.PlaceLemmas.{kept, one_gone}
use Rattle.pos_dir.specs.declared.change.Change.TheVariants as file

-- ---- the files' tags

module _ {layout : Layout} {files : List File} {next control : ℕ} {spent : Option ℕ} where
  pub given_is : (change : Change) → IsUnrefused layout files next control spent change
      → given_after (tags_of files) next (file_change files change) ≡ tags_of (files_after next files change)
  given_is (Create name size) may = simp map-append
  given_is (Delete name) may =
      let found = deleted may in
      rw (
        one_gone (is_named name) files found.0 (only_named files name may.theirs.directory.distinct) found.1,
        map-remove,
      ) refl
  given_is (Rename handle name) may =
      sym (kept tag_of (is_called handle) (λ file. record file { name = name }) files (λ file. refl))
  given_is (Edit handle edit) may =
      (keeps_handles (index_of (is_called handle) files) edit).given (tags_of files) next ∙ sym (kept tag_of
      (is_called handle) (λ file. record file { bytes = edited edit file.bytes }) files (λ file. refl))

-- what a change lacks, uses up and gives of the numbers
pub numbers_are : (files : List File) (change : Change) (next : ℕ) → let made = file_change files change in
    (lacks next made ≡ (is_create change && nat_eq next last_number)) × (following next made ≡ next_after next change)
    × (value_after next made ≡ given_by next change)
numbers_are files (Edit handle edit) next =
    let keeps = keeps_handles (index_of (is_called handle) files) edit in
    (keeps.lack next, keeps.next next, keeps.value next)
numbers_are files other next = (refl, refl, refl)

-- ---- facts of all handles

pub all_with : {X : Type 0} (P : X → Type 0) (xs : List X) {x : X} → AllByRecursion P xs → P x
    → AllByRecursion P (xs ++ x ∷ [])
all_with P [] all one = (one, tt)
all_with P (first ∷ xs) all one = (all.0, all_with P xs all.1 one)

pub all_without : {X : Type 0} (P : X → Type 0) (xs : List X) (i : ℕ) → AllByRecursion P xs
    → AllByRecursion P (remove xs i)
all_without P [] i all = simp (take-nil, drop-nil) tt
all_without P (first ∷ xs) zero all = all.1
all_without P (first ∷ xs) (suc i) all = (all.0, all_without P xs i all.1)

pub all_so : {X : Type 0} (P Q : X → Type 0) (xs : List X) → ((x : X) → P x → Q x) → AllByRecursion P xs
    → AllByRecursion Q xs
all_so P Q [] so all = tt
all_so P Q (first ∷ xs) so all = (so first all.0, all_so P Q xs so all.1)

distinct_with : (handles : List ℕ) (next : ℕ) → AreDistinct handles → AllByRecursion (λ handle. handle < next) handles
    → AreDistinct (handles ++ next ∷ [])
distinct_with [] next distinct below = (tt, tt)
distinct_with (first ∷ handles) next distinct below = (
  all_with (λ other. ¬ (other ≡ first)) handles distinct.0 (λ same. let lt = below.0 in omega (arith, same, lt)),
  distinct_with handles next distinct.1 below.1,
)

distinct_without : (handles : List ℕ) (i : ℕ) → AreDistinct handles → AreDistinct (remove handles i)
distinct_without [] i distinct = simp (take-nil, drop-nil) tt
distinct_without (first ∷ handles) zero distinct = distinct.1
distinct_without (first ∷ handles) (suc i) distinct =
    (all_without (λ other. ¬ (other ≡ first)) handles i distinct.0, distinct_without handles i distinct.1)

-- the handles after a change are distinct and below the next one
handles_after : (made : FileChange) (tags : List FileTag) (next : ℕ) → AreDistinct (numbers_of tags)
    → AllByRecursion (λ handle. handle < next) (numbers_of tags) → AreDistinct (numbers_of (given_after tags next made))
    × AllByRecursion (λ handle. handle < following next made) (numbers_of (given_after tags next made))
handles_after (file.Create name size) tags next distinct below =
    rw (map-append (λ (tag : FileTag). tag.handle) tags (new_tag next ∷ [])) (
      distinct_with (numbers_of tags) next distinct below,
      all_with (λ handle. handle < next + 1) (numbers_of tags) (all_so (λ handle. handle < next)
          (λ handle. handle < next + 1) (numbers_of tags) (λ handle lt. omega (arith, lt)) below) (omega arith),
    )
handles_after (file.Delete index) tags next distinct below =
    rw (map-remove (λ (tag : FileTag). tag.handle) tags index) (
      distinct_without (numbers_of tags) index distinct,
      all_without (λ handle. handle < next) (numbers_of tags) index below,
    )
handles_after other tags next distinct below = (distinct, below)

-- The tags after a change are tags of the files after it.
pub are_after : {layout : Layout} {files : List File} {next control : ℕ} {spent : Option ℕ} (change : Change)
    → IsUnrefused layout files next control spent change
    → AreHandles (given_after (tags_of files) next (file_change files change)) (plain (files_after next files change))
    (following next (file_change files change))
are_after {files} {next} change may =
    let numbers : numbers_of (tags_of files) ≡ handles_of files =
    map-map (λ (tag : FileTag). tag.handle) tag_of files in
    let after = handles_after (file_change files change) (tags_of files) next (rw numbers may.theirs.distinct)
    (rw numbers may.theirs.below) in record {
      count = ap length (given_is change may) ∙ length-map (files_after next files change) tag_of
          ∙ sym (length-map (files_after next files change) plain_file);
      distinct = after.0;
      below = after.1;
    }
