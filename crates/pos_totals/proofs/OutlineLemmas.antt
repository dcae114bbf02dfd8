-- What is buffered depends on the handles and the sizes of the files alone.
use Rattle.pos_totals.proofs.Common.{AllByRecursion, AreDistinct, Bool, Change, Edit, File, IsBuffered, List, None}
use Rattle.pos_totals.proofs.Common.{Some, [], ap, arith, cases_Bool, filter, find, fits, group_of, handles_of}
use Rattle.pos_totals.proofs.Common.{index_of, is_called, is_none, is_of_none, length, list_any, map, map-map, nat_eq}
use Rattle.pos_totals.proofs.Common.{nat_tests, negsuc, pos, refl, same_Some, subst, sym, true, ℕ, ℤ, ⊎_elim, ◌∙◌, ◌∷◌}
use Rattle.pos_totals.proofs.Common.{◌≡◌}
use Rattle.pos_totals.proofs.PlaceLemmas.{OnlyOne}

-- a file's handle and size, and those of all files
abbrev pub outline : File → ℕ × ℕ
outline file = (file.handle, length file.bytes)

abbrev pub outlines : List File → List (ℕ × ℕ)
outlines files = map outline files

-- ---- files that are alike

-- whether a file has a handle
same_called : (handle : ℤ) (x y : File) → outline x ≡ outline y → is_called handle x ≡ is_called handle y
same_called (pos h) x y same = ap (λ (p : ℕ × ℕ). nat_eq p.0 h) same
same_called (negsuc n) x y same = refl

-- whether there is a file with a handle, and its index
same_found : (handle : ℤ) (xs ys : List File) → outlines xs ≡ outlines ys
    → (index_of (is_called handle) xs ≡ index_of (is_called handle) ys)
    × (is_none (find (is_called handle) xs) ≡ is_none (find (is_called handle) ys))
same_found handle [] [] same = (refl, refl)
same_found handle (x ∷ xs) (y ∷ ys) same = grind (arith, nat_tests, same_called handle x y, same_found handle xs ys)
same_found handle xs ys same = absurd cc

-- what holds of the size of each file with a handle
same_sizes : (P : ℕ → Type 0) (handle : ℤ) (xs ys : List File) → outlines xs ≡ outlines ys
    → AllByRecursion (λ file. is_called handle file ≡ true → P (length file.bytes)) xs
    → AllByRecursion (λ file. is_called handle file ≡ true → P (length file.bytes)) ys
same_sizes P handle [] [] same all = tt
same_sizes P handle (x ∷ xs) (y ∷ ys) same all =
    let first : outline x ≡ outline y = cc in
    let others : outlines xs ≡ outlines ys = cc in (
      λ called. subst P (ap (λ (p : ℕ × ℕ). p.1) first) (all.0 (same_called handle x y first ∙ called)),
      same_sizes P handle xs ys others all.1,
    )
same_sizes P handle xs ys same all = absurd cc

-- what is buffered for files may be buffered for files that are like them
pub same_buffered : (xs ys : List File) (next : ℕ) (change : Change) → outlines xs ≡ outlines ys
    → IsBuffered xs next change → IsBuffered ys next change
same_buffered xs ys next (Edit handle edit) same buffered =
    (buffered.0, same_sizes (λ size. fits size edit ≡ true) handle xs ys same buffered.1, buffered.2)
same_buffered xs ys next other same buffered = absurd buffered

-- its group is the same, and it is of files that are gone in both alike
pub same_group : (xs ys : List File) (next : ℕ) (changes : List Change) → outlines xs ≡ outlines ys
    → AllByRecursion (IsBuffered xs next) changes → (group_of xs changes ≡ group_of ys changes)
    × (list_any (is_of_none xs) changes ≡ list_any (is_of_none ys) changes)
same_group xs ys next [] same all = (refl, refl)
same_group xs ys next (Edit handle edit ∷ changes) same all =
    let one = same_found handle xs ys same in
    let rest = same_group xs ys next changes same all.1 in
    (cc, cc)
same_group xs ys next (other ∷ changes) same all = absurd all.0

-- files that are alike have the same handles
pub same_distinct : (xs ys : List File) → outlines xs ≡ outlines ys → AreDistinct (handles_of xs)
    → AreDistinct (handles_of ys)
same_distinct xs ys same distinct =
    let numbers = λ (zs : List File). map-map (λ (p : ℕ × ℕ). p.0) outline zs in
    subst AreDistinct (sym (numbers xs) ∙ ap (map (λ (p : ℕ × ℕ). p.0)) same ∙ numbers ys) distinct

-- ---- the one file that a test finds

-- no file meets the test
pub none_meets : (test : File → Bool) (P : File → Type 0) (files : List File) → find test files ≡ None
    → AllByRecursion (λ file. test file ≡ true → P file) files
none_meets test P [] none = tt
none_meets test P (first ∷ files) none =
    (λ meets. absurd (grind (arith, nat_tests)), none_meets test P files (grind (arith, nat_tests)))

-- what holds of the one file that meets the test holds of each that does
pub one_meets : (test : File → Bool) (P : File → Type 0) (files : List File) {file : File} → OnlyOne test files
    → find test files ≡ Some file → P file → AllByRecursion (λ file. test file ≡ true → P file) files
one_meets test P [] only found here = absurd cc
one_meets test P (first ∷ files) {file} only found here = ⊎_elim
    (λ is. (λ meets. subst P (sym (same_Some first file (rw is at found))) here, none_meets test P files (only.0 is)))
    (λ is. (λ meets. absurd cc, one_meets test P files only.1 (rw is at found) here)) (cases_Bool (test first))

-- what holds of each file that meets the test holds of the one that is found
pub found_has : (test : File → Bool) (P : File → Type 0) (files : List File) (file : File)
    → AllByRecursion (λ file. test file ≡ true → P file) files → find test files ≡ Some file → P file
found_has test P [] file all found = absurd cc
found_has test P (first ∷ files) file all found = grind (arith, nat_tests, all.0, found_has test P files file all.1)

-- what holds of all files holds of those that are left
pub all_left : (P : File → Type 0) (test : File → Bool) (files : List File) → AllByRecursion P files
    → AllByRecursion P (filter test files)
all_left P test [] all = tt
all_left P test (first ∷ files) all = grind (arith, nat_tests, all.0, all_left P test files all.1)
