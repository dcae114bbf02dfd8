-- Files numbered from a handle on.
use Rattle.pos_totals.proofs.Common.{AllByRecursion, AreDistinct, AreHandles, List, PlainFile, [], ap, arith, called}
use Rattle.pos_totals.proofs.Common.{length, new_tag, numbered, numbers_of, refl, suc, tags_from, with_tags, zero, ℕ}
use Rattle.pos_totals.proofs.Common.{◌++◌, ◌+◌, ◌<◌, ◌∷◌, ◌≡◌, ◌≤◌}

pub with_numbers : (files : List PlainFile) (next : ℕ)
    → with_tags (tags_from next (length files)) files ≡ numbered next files
with_numbers [] next = refl
with_numbers (file ∷ files) next = ap (λ rest. called (new_tag next) file ∷ rest) (with_numbers files (next + 1))

pub length-tags : (next count : ℕ) → length (tags_from next count) ≡ count
length-tags next zero = refl
length-tags next (suc count) = ap suc (length-tags (next + 1) count)

-- each is from the first one on, and below the end
all_from : (P : ℕ → Type 0) (first count : ℕ) → ((handle : ℕ) → first ≤ handle → handle < first + count → P handle)
    → AllByRecursion P (numbers_of (tags_from first count))
all_from P first zero each = tt
all_from P first (suc count) each = (
  each first (omega arith) (omega arith),
  all_from P (first + 1) count (λ handle from below. each handle (omega (arith, from)) (omega (arith, below))),
)

distinct_numbers : (first count : ℕ) → AreDistinct (numbers_of (tags_from first count))
distinct_numbers first zero = tt
distinct_numbers first (suc count) = (
  all_from (λ other. ¬ (other ≡ first)) (first + 1) count (λ other from below same. omega (arith, from, same)),
  distinct_numbers (first + 1) count,
)

pub are_numbers : (files : List PlainFile) (next : ℕ)
    → AreHandles (tags_from next (length files)) files (next + length files)
are_numbers files next = record {
  count = length-tags next (length files);
  distinct = distinct_numbers next (length files);
  below = all_from (λ handle. handle < next + length files) next (length files) (λ handle from below. below);
}

-- one number more at the end
pub tags_more : (first count : ℕ) → tags_from first count ++ new_tag (first + count) ∷ [] ≡ tags_from first (count + 1)
tags_more first zero = ap (λ n. new_tag n ∷ []) (omega arith)
tags_more first (suc count) = grind (arith, tags_more (first + 1) count)
