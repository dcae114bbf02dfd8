-- A change that is applicable leaves the files of a directory.
use Rattle.pos_dir.proofs.Common.{AllByRecursion, Bool, Change, DirectoryFault, Err, File, IsChange, IsDirectory}
use Rattle.pos_dir.proofs.Common.{Limits, List, Ok, Result, Shape, Some, [], and_then, ap, are_distinct, arith}
use Rattle.pos_dir.proofs.Common.{bytes_eq, drop-nil, false, get_or_from_slice_get, has_name, is_name, length}
use Rattle.pos_dir.proofs.Common.{length-append, length-set, list_all, nat_tests, not, outcome, outcome_of_all, refl}
use Rattle.pos_dir.proofs.Common.{remove, set, slice_get, slice_get_within, suc, sum_by-remove, sum_by-set, sum_by_push}
use Rattle.pos_dir.proofs.Common.{take-nil, total_size, true, zero, ℕ, ◌++◌, ◌∙◌, ◌∷◌, ◌≡◌, ◌≤◌}
use Rattle.std.proofs.lemmas.List.Edits.{length-remove}
use Rattle.std.proofs.lemmas.List.Folds.{list_all-append, list_any-append}
use Rattle.std.proofs.lemmas.Slice.Eq.{bytes_eq-Decides}
use Rattle.pos_dir.proofs.OutcomeLemmas.{Makes, makes}
use Rattle.pos_dir.proofs.OutcomeLemmas.Makes.{Adds, Removes, Renames, Rewrites}

-- ---- a test of all files

list_all-remove : (p : File → Bool) (files : List File) (i : ℕ) → list_all p files ≡ true
    → list_all p (remove files i) ≡ true
list_all-remove p [] i good = simp (take-nil, drop-nil)
list_all-remove p (f ∷ files) zero good = grind (arith, nat_tests)
list_all-remove p (f ∷ files) (suc i) good = grind (arith, nat_tests, list_all-remove p files i)

list_all-set : (p : File → Bool) (files : List File) (i : ℕ) (file : File) → list_all p files ≡ true → p file ≡ true
    → list_all p (set files i file) ≡ true
list_all-set p [] i file good new = refl
list_all-set p (f ∷ files) zero file good new = grind (arith, nat_tests)
list_all-set p (f ∷ files) (suc i) file good new = grind (arith, nat_tests, list_all-set p files i file)

list_all-at : (p : File → Bool) (files : List File) (i : ℕ) (file : File) → slice_get files i ≡ Some file
    → list_all p files ≡ true → p file ≡ true
list_all-at p [] i file at good = absurd cc
list_all-at p (f ∷ files) zero file at good = grind (arith, nat_tests)
list_all-at p (f ∷ files) (suc i) file at good = grind (arith, nat_tests, list_all-at p files i file at)

-- ---- names

-- no file has the name where each has another
free : (files : List File) (name : List ℕ)
    → not (has_name files name) ≡ list_all (λ file. not (bytes_eq file.name name)) files
free [] name = refl
free (f ∷ files) name = grind (arith, nat_tests, free files name)

differs : (a b : List ℕ) → bytes_eq a b ≡ false → bytes_eq b a ≡ false
differs a b h = grind (arith, nat_tests, bytes_eq-Decides a b, bytes_eq-Decides b a)

pub are_distinct-append : (files : List File) (file : File) → are_distinct files ≡ true
    → has_name files file.name ≡ false → are_distinct (files ++ file ∷ []) ≡ true
are_distinct-append [] file distinct new = refl
are_distinct-append (f ∷ files) file distinct new = grind (
  arith,
  nat_tests,
  are_distinct-append files file,
  list_any-append (λ (x : File). bytes_eq x.name f.name) files,
  differs f.name file.name,
)

are_distinct-remove : (files : List File) (i : ℕ) → are_distinct files ≡ true → are_distinct (remove files i) ≡ true
are_distinct-remove [] i distinct = simp (take-nil, drop-nil)
are_distinct-remove (f ∷ files) zero distinct = grind (arith, nat_tests)
are_distinct-remove (f ∷ files) (suc i) distinct = grind (
  arith,
  nat_tests,
  free,
  list_all-remove (λ x. not (bytes_eq x.name f.name)) files i,
  are_distinct-remove files i,
)

-- a file with a new name
are_distinct-set : (files : List File) (i : ℕ) (file : File) → are_distinct files ≡ true
    → has_name files file.name ≡ false → are_distinct (set files i file) ≡ true
are_distinct-set [] i file distinct new = refl
are_distinct-set (f ∷ files) zero file distinct new = grind (arith, nat_tests)
are_distinct-set (f ∷ files) (suc i) file distinct new = grind (
  arith,
  nat_tests,
  free,
  list_all-set (λ x. not (bytes_eq x.name f.name)) files i file,
  are_distinct-set files i file,
  differs f.name file.name,
)

-- a file with the name that it had
has_name-same : (files : List File) (i : ℕ) (old new : File) (name : List ℕ) → slice_get files i ≡ Some old
    → new.name ≡ old.name → has_name (set files i new) name ≡ has_name files name
has_name-same [] i old new name at same = refl
has_name-same (f ∷ files) zero old new name at same = cc
has_name-same (f ∷ files) (suc i) old new name at same = cc (has_name-same files i old new name at same)

are_distinct-same : (files : List File) (i : ℕ) (old new : File) → slice_get files i ≡ Some old → new.name ≡ old.name
    → are_distinct (set files i new) ≡ are_distinct files
are_distinct-same [] i old new at same = refl
are_distinct-same (f ∷ files) zero old new at same = cc
are_distinct-same (f ∷ files) (suc i) old new at same =
    rw (has_name-same files i old new f.name at same, are_distinct-same files i old new at same) refl

-- ---- a file that keeps its size

total_size-set : (files : List File) (i : ℕ) (old new : File) → slice_get files i ≡ Some old
    → length new.bytes ≡ length old.bytes → total_size (set files i new) ≡ total_size files
total_size-set files i old new at same =
    let here = ap (λ (x : File). length x.bytes) (get_or_from_slice_get files i old old at) in
    omega (
      arith,
      sum_by-set (λ (x : File). length x.bytes) files i new old (slice_get_within files i old at),
      here,
      same,
    )

total_size-remove : (files : List File) (i : ℕ) (old : File) → slice_get files i ≡ Some old
    → total_size (remove files i) ≤ total_size files
total_size-remove files i old at =
    omega (arith, sum_by-remove (λ (x : File). length x.bytes) files i old (slice_get_within files i old at))

-- ---- each change

made_directory : {limits : Limits} (files : List File) {next : List File} {change : Change} → IsDirectory limits files
    → IsChange change → Makes limits files change next → IsDirectory limits next
made_directory files was takes (Adds file good new few small e) = rw (← e) (record {
  count = omega (arith, length-append files (file ∷ []), few);
  size = omega (arith, sum_by_push (λ (x : File). length x.bytes) files file, small);
  named = rw list_all-append (grind (arith, nat_tests, was.named, good takes.flawless));
  distinct = are_distinct-append files file was.distinct new;
})
made_directory files was takes (Removes i old at e) = rw (← e) (record {
  count = omega (arith, length-remove files i (slice_get_within files i old at), was.count);
  size = omega (arith, total_size-remove files i old at, was.size);
  named = list_all-remove (λ x. is_name x.name) files i was.named;
  distinct = are_distinct-remove files i was.distinct;
})
made_directory files was takes (Renames i old file at good new size e) = rw (← e) (record {
  count = omega (arith, length-set files i file, was.count);
  size = omega (arith, total_size-set files i old file at size, was.size);
  named = list_all-set (λ x. is_name x.name) files i file was.named (good takes.flawless);
  distinct = are_distinct-set files i file was.distinct new;
})
made_directory files was takes (Rewrites i old file at shape e) = rw (← e) (record {
  count = omega (arith, length-set files i file, was.count);
  size = omega (arith, total_size-set files i old file at (ap (λ (s : Shape). s.size) shape), was.size);
  named = list_all-set (λ x. is_name x.name) files i file was.named
      (ap (λ (s : Shape). is_name s.name) shape ∙ list_all-at (λ x. is_name x.name) files i old at was.named);
  distinct = are_distinct-same files i old file at (ap (λ (s : Shape). s.name) shape) ∙ was.distinct;
})

-- A change that a group takes and that is applicable leaves the files of a directory.
pub changed : {limits : Limits} {files next : List File} {change : Change} → IsDirectory limits files → IsChange change
    → outcome limits files change ≡ Ok next → IsDirectory limits next
changed {files} {change} was takes h = made_directory files was takes (makes change h)

went_on : (r : Result (List File) DirectoryFault) {step : List File → Result (List File) DirectoryFault}
    {next : List File} → and_then r step ≡ Ok next → (mid : List File) × (r ≡ Ok mid) × (step mid ≡ Ok next)
went_on (Ok mid) h = (mid, refl, h)
went_on (Err fault) h = absurd cc

-- So does a group.
pub all_changed : {limits : Limits} (files : List File) {next : List File} (changes : List Change)
    → IsDirectory limits files → AllByRecursion IsChange changes → outcome_of_all limits files changes ≡ Ok next
    → IsDirectory limits next
all_changed files {next} [] was each h = let e : files ≡ next = cc in rw (← e) was
all_changed {limits} files (change ∷ changes) was each h =
    let first = went_on (outcome limits files change) h in
    all_changed first.0 changes (changed was each.0 first.1) each.1 first.2

-- ---- how many files there are, whatever their names and sizes

few_made : {limits : Limits} {files next : List File} {change : Change} → length files ≤ limits.files
    → Makes limits files change next → length next ≤ limits.files
few_made was made = grind (arith, length-append, length-remove, length-set, slice_get_within)

-- Changes that are applicable leave no more files than the limits allow.
pub few_after_all : (limits : Limits) (files next : List File) (changes : List Change) → length files ≤ limits.files
    → outcome_of_all limits files changes ≡ Ok next → length next ≤ limits.files
few_after_all limits files next [] was h = let e : files ≡ next = cc in rw (← e) was
few_after_all limits files next (change ∷ changes) was h =
    let first = went_on (outcome limits files change) h in
    few_after_all limits first.0 next changes (few_made was (makes change first.1)) first.2
