-- Names with an end, and paths that are found one after another.
use Rattle.std.proofs.Common.{[], ap, arith, drop, false, get_or, length, refl, subst, sym, take, ◌++◌, ◌+◌, ◌-◌, ◌<◌}
use Rattle.std.proofs.Common.{◌∙◌, ◌∷◌, ◌≡◌, append-nil, append_assoc, Bool, List, Ok, ℕ}
use Rattle.std.specs.Prelude.{None, String, codes, nat_eq, if◌then◌else◌, string_bytes}
use Rattle.std.specs.Borrow.{Bor}
use Rattle.std.specs.Cmp.Lexicographic.{slice_cmp}
use Rattle.std.specs.List.{ends_with}
use Rattle.std.specs.List.Sorted.{IsSorted}
use Rattle.std.specs.Ordering.{nat_cmp}
use Rattle.std.specs.String.{string_cmp}
use Rattle.std.proofs.lemmas.List.{drop_more, get_or-map, length-map, take-append-drop, take_more}
use Rattle.pos_tool.specs.Texts.{texts}
use Rattle.std.specs.Str.Pattern.{FindsTextSuffix}
use Rattle.std.proofs.lemmas.Str.Pattern.{ends_text}
use Rattle.pos_tool.specs.Names.{FindsAll, FindsAt, script_of}
use Rattle.pos_tool.specs.declared.folder.Folder.{Ghosts as FolderGhosts}

by_test : (name : List ℕ) (test : Bool) → ends_with nat_eq name (codes ".stdout") ≡ test
    → script_of name ≡ (if test then take (length name - 7) name ∷ [] else [])
by_test name test is = rw is refl

-- a name without it
pub without_end : (name : List ℕ) → FindsTextSuffix (codes ".stdout") name None → script_of name ≡ []
without_end name none = by_test name false (sym (ends_text false (codes ".stdout") name none))

module _ {A : Type 0} (xs : List A) (i : ℕ) (d : A) (lt : i < length xs) where
  -- what is before a place, what is there, and what is after it
  pub in_parts_at : xs ≡ take i xs ++ get_or xs i d ∷ drop (i + 1) xs
  in_parts_at = sym (take-append-drop i xs) ∙ ap (λ ys. take i xs ++ ys) (drop_more xs i d lt)

  -- what is up to a place
  pub taken_at : take (i + 1) xs ≡ take i xs ++ get_or xs i d ∷ []
  taken_at = take_more xs i d lt

-- one more path was found
pub finds_more : {S : Type 0} (folder : FolderGhosts S) (them : S) (paths : List (Bor (List ℕ))) (found : List (List ℕ))
    (path : Bor (List ℕ)) (more : List (List ℕ)) → FindsAll folder them paths found
    → FindsAt folder them path.now (Ok more) → FindsAll folder them (paths ++ path ∷ []) (found ++ more)
finds_more folder them [] found path more are one =
    (more, [], one, refl, ap (λ xs. xs ++ more) are ∙ sym (append-nil more))
finds_more folder them (first ∷ paths) found path more (here, others, at, rest, split) one = (
  here,
  others ++ more,
  at,
  finds_more folder them paths others path more rest one,
  ap (λ xs. xs ++ more) split ∙ append_assoc here others more,
)

-- names in order, as lists of bytes
pub sorted_texts : {A : Type 0} (names : List (String A)) → IsSorted string_cmp names
    → IsSorted (slice_cmp nat_cmp) (texts names)
sorted_texts [] sorted k d low high = absurd (omega (arith, high))
sorted_texts {A} (name ∷ names) sorted k d low high =
    let all : List (String A) = name ∷ names in
    let below : k + 1 < length all =
    subst (λ (n : ℕ). k + 1 < n) (length-map all (λ (x : String A). string_bytes x)) high in
    rw (
      get_or-map (λ (x : String A). string_bytes x) all (k + 1) name d below,
      get_or-map (λ (x : String A). string_bytes x) all k name d (omega (arith, below)),
    ) (sorted k name low below)
