-- A file that a test finds: its index, and the files with it changed or without it.
use Rattle.pos_totals.proofs.Common.{Bool, File, List, None, Some, [], arith, filter, find, find_at, index_of, length}
use Rattle.pos_totals.proofs.Common.{map, nat_tests, not, one-add, refl, remove, set, slice_get, slice_get_within, sym}
use Rattle.pos_totals.proofs.Common.{true, with_each, ⊤, ◌<◌, ◌∙◌, ◌∷◌, ◌≡◌}

-- at most one file meets a test
abbrev pub OnlyOne : (File → Bool) → List File → Type 0
OnlyOne test [] = ⊤
OnlyOne test (file ∷ files) = (test file ≡ true → find test files ≡ None) × OnlyOne test files

-- a file that was found is at the index
pub found_at : (test : File → Bool) (files : List File) {file : File} → find test files ≡ Some file
    → slice_get files (index_of test files) ≡ Some file
found_at test files found = sym (find_at test files) ∙ found

pub found_inside : (test : File → Bool) (files : List File) (file : File) → find test files ≡ Some file
    → index_of test files < length files
found_inside test files file found = slice_get_within files (index_of test files) file (found_at test files found)

pub found_meets : (test : File → Bool) (files : List File) (file : File) → find test files ≡ Some file
    → test file ≡ true
found_meets test [] file found = absurd cc
found_meets test (first ∷ files) file found = grind (arith, nat_tests, found_meets test files file)

-- no file is changed where none meets the test
none_changed : (test : File → Bool) (change : File → File) (files : List File) → find test files ≡ None
    → with_each test change files ≡ files
none_changed test change [] none = refl
none_changed test change (first ∷ files) none = grind (arith, nat_tests, none_changed test change files)

-- where one file meets the test, it is changed in its place
pub one_changed : (test : File → Bool) (change : File → File) (files : List File) (file : File) → OnlyOne test files
    → find test files ≡ Some file → with_each test change files ≡ set files (index_of test files) (change file)
one_changed test change [] file only found = absurd cc
one_changed test change (first ∷ files) file only found = grind (
  arith,
  nat_tests,
  one_changed test change files file only.1,
  none_changed test change files,
  only.0,
  one-add (index_of test files),
)

-- a change keeps what it keeps of each file
pub kept : {X : Type 0} (f : File → X) (test : File → Bool) (change : File → File) (files : List File)
    → ((file : File) → f (change file) ≡ f file) → map f (with_each test change files) ≡ map f files
kept f test change [] keeps = refl
kept f test change (first ∷ files) keeps = grind (arith, nat_tests, keeps first, kept f test change files keeps)

-- no file goes where none meets the test
none_gone : (test : File → Bool) (files : List File) → find test files ≡ None
    → filter (λ file. not (test file)) files ≡ files
none_gone test [] none = refl
none_gone test (first ∷ files) none = grind (arith, nat_tests, none_gone test files)

-- where one file meets the test, it goes from its place
pub one_gone : (test : File → Bool) (files : List File) (file : File) → OnlyOne test files → find test files ≡ Some file
    → filter (λ file. not (test file)) files ≡ remove files (index_of test files)
one_gone test [] file only found = absurd cc
one_gone test (first ∷ files) file only found = grind (
  arith,
  nat_tests,
  one_gone test files file only.1,
  none_gone test files,
  only.0,
  one-add (index_of test files),
)
