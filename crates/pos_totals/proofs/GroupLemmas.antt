-- What each change does to the files is what its group does to the directory.
use Rattle.pos_totals.proofs.Common.{AllByRecursion, AreDistinct, AreTheirFiles, Bool, Change, Create, Delete, Edit}
use Rattle.pos_totals.proofs.Common.{File, FileEdit, Layout, List, None, Ok, Option, PlainFile, Rename, Some, FileTag}
use Rattle.pos_totals.proofs.Common.{[], and_parts, ap, are_distinct, arith, bytes_eq-Decides, change_rows, drop-map}
use Rattle.pos_totals.proofs.Common.{edited, false, file_change, files_after, find, first_refusal, fits, fits_file}
use Rattle.pos_totals.proofs.Common.{free_data, handles_of, has_file, has_name, index_of, is_called, is_named, is_some}
use Rattle.pos_totals.proofs.Common.{is_up_to, leb-true, length, length-map, limits_of, map, map-append, map-set}
use Rattle.pos_totals.proofs.Common.{nat_abs, nat_tests, negsuc, not, not-true, option_map, outcome, plain, plain_file}
use Rattle.pos_totals.proofs.Common.{pos, refl, remove, set, size_in_sum, slice_get, slice_get-map, sum_by-map, sym}
use Rattle.pos_totals.proofs.Common.{take-map, total_size, totals_limits, true, with_each, with_tags, ℕ, ℤ, ◌∙◌, ◌∷◌}
use Rattle.pos_totals.proofs.Common.{◌≡◌, ◌≤◌}
use Rattle.pos_totals.proofs.EditLemmas.{makes_edit}
use Rattle.pos_totals.proofs.PairLemmas.{plain_of}
use Rattle.pos_totals.proofs.PlaceLemmas.{OnlyOne, found_at, one_changed, one_gone}

-- ---- names and handles

-- the directory's test for a name
pub plain_name : (files : List File) (name : List ℕ) → has_name (plain files) name ≡ has_file (is_named name) files
plain_name [] name = refl
plain_name (first ∷ files) name = grind (arith, nat_tests, plain_name files name)

pub none_of : {X : Type 0} (found : Option X) → is_some found ≡ false → found ≡ None
none_of None none = refl
none_of (Some x) none = absurd cc

pub some_of : {X : Type 0} (found : Option X) → is_some found ≡ true → (x : X) × (found ≡ Some x)
some_of None some = absurd cc
some_of (Some x) some = (x, refl)

-- names are distinct, so at most one file has a name
pub only_named : (files : List File) (name : List ℕ) → are_distinct (plain files) ≡ true → OnlyOne (is_named name) files
only_named [] name distinct = tt
only_named (first ∷ files) name distinct =
    let parts = and_parts (not (has_name (plain files) first.name)) (are_distinct (plain files)) distinct in (
      λ same. none_of (find (is_named name) files) (sym (plain_name files name) ∙ ap (has_name (plain files))
          (sym ((bytes_eq-Decides first.name name).0 same)) ∙ not-true (has_name (plain files) first.name) parts.0),
      only_named files name parts.1,
    )

-- none of the files has a handle that differs from all of theirs
others : (files : List File) (handle : ℕ) → AllByRecursion (λ other. ¬ (other ≡ handle)) (handles_of files)
    → find (is_called (pos handle)) files ≡ None
others [] handle differ = refl
others (first ∷ files) handle differ = grind (arith, nat_tests, differ.0, others files handle differ.1)

-- handles are distinct, so at most one file has a handle
pub only_called : (files : List File) (handle : ℤ) → AreDistinct (handles_of files) → OnlyOne (is_called handle) files
only_called [] handle distinct = tt
only_called (first ∷ files) handle distinct =
    (λ same. grind (arith, nat_tests, same, others files first.handle distinct.0), only_called files handle distinct.1)

-- ---- the directory

pub map-remove : {X Y : Type 0} (f : X → Y) (xs : List X) (i : ℕ) → map f (remove xs i) ≡ remove (map f xs) i
map-remove f xs i = simp (map-append, ← take-map, ← drop-map)

pub plain_size : (files : List File) → total_size (plain files) ≡ size_in_sum files
plain_size files = sum_by-map plain_file (λ (x : PlainFile). length x.bytes) files

-- the same of files with their tags
pub paired_size : (tags : List FileTag) (files : List PlainFile) → length tags ≡ length files
    → size_in_sum (with_tags tags files) ≡ total_size files
paired_size tags files same = sym (plain_size (with_tags tags files)) ∙ ap total_size (plain_of tags files same)

-- a file that was found is in the directory at its index
plain_at : (test : File → Bool) (files : List File) (file : File) → find test files ≡ Some file
    → slice_get (plain files) (index_of test files) ≡ Some (plain_file file)
plain_at test files file found =
    slice_get-map plain_file files (index_of test files) ∙ ap (option_map plain_file) (found_at test files found)

-- what the directory makes is what the change makes
abbrev pub Makes : Layout → List File → Change → ℕ → Type 0
Makes layout files change next =
    outcome (limits_of layout) (plain files) (file_change files change) ≡ Ok (plain (files_after next files change))

up_to : (limit : ℕ) (n : ℤ) → is_up_to limit n ≡ true → nat_abs n ≤ limit
up_to limit (pos n) fits = leb-true n limit fits
up_to limit (negsuc n) fits = absurd cc

-- the one file with a handle, changed in its place
set_plain : (files : List File) (handle : ℤ) (f : File) (change : File → File) → AreDistinct (handles_of files)
    → find (is_called handle) files ≡ Some f → set (plain files) (index_of (is_called handle) files)
    (plain_file (change f)) ≡ plain (with_each (is_called handle) change files)
set_plain files handle f change distinct found =
    rw (one_changed (is_called handle) change files f (only_called files handle distinct) found, map-set) refl

-- an edit that fits is of a file that is there
pub fitting : (found : Option File) (edit : FileEdit) → fits_file found edit ≡ true
    → (f : File) × (found ≡ Some f) × (fits (length f.bytes) edit ≡ true)
fitting None edit fit = absurd cc
fitting (Some f) edit fit = (f, refl, fit)

pub made_edit : (layout : Layout) (files : List File) (handle : ℤ) (edit : FileEdit) (next : ℕ)
    → AreDistinct (handles_of files) → fits_file (find (is_called handle) files) edit ≡ true
    → Makes layout files (Edit handle edit) next
made_edit layout files handle edit next distinct fit =
    let found = fitting (find (is_called handle) files) edit fit in
    makes_edit (limits_of layout) (plain files) (index_of (is_called handle) files) edit
    (plain_at (is_called handle) files found.0 found.1) found.2
    ∙ ap Ok (set_plain files handle found.0 (λ f. record f { bytes = edited edit f.bytes }) distinct found.1)

-- ---- a change that nothing refuses

-- Nothing refuses a change of files that are theirs.
pub record IsUnrefused (layout : Layout) (files : List File) (next control : ℕ) (spent : Option ℕ)
    (change : Change) : Type 0 where
  pub theirs : AreTheirFiles layout files next
  pub rows : first_refusal (change_rows (totals_limits layout) files control spent change) ≡ None

module _ {layout : Layout} {files : List File} {next control : ℕ} {spent : Option ℕ} where
  -- the file of a delete
  pub deleted : {name : List ℕ} → IsUnrefused layout files next control spent (Delete name)
      → (file : File) × (find (is_named name) files ≡ Some file)
  deleted {name} may =
      let there : has_file (is_named name) files ≡ true = grind (arith, nat_tests, may.rows) in
      some_of (find (is_named name) files) there

  -- an edit fits the file
  pub edit_fits : {handle : ℤ} {edit : FileEdit} → IsUnrefused layout files next control spent (Edit handle edit)
      → fits_file (find (is_called handle) files) edit ≡ true
  edit_fits may = grind (arith, nat_tests, may.rows)

  -- It makes of the plain files those after it.
  pub makes : (change : Change) → IsUnrefused layout files next control spent change → Makes layout files change next
  makes (Create name size) may =
      let small = may.theirs.directory.size in
      let rows = may.rows in
      rw map-append (grind (
        arith,
        nat_tests,
        plain_name files name,
        plain_size files,
        length-map files plain_file,
        up_to (free_data (totals_limits layout) files) size,
      ))
  makes (Delete name) may =
      let found = deleted may in
      rw (
        plain_at (is_named name) files found.0 found.1,
        one_gone (is_named name) files found.0 (only_named files name may.theirs.directory.distinct) found.1,
        map-remove,
      ) refl
  makes (Rename handle name) may =
      let rows = may.rows in
      let there : has_file (is_called handle) files ≡ true = grind (arith, nat_tests) in
      let free : has_name (plain files) name ≡ false = grind (arith, nat_tests, plain_name files name) in
      let found = some_of (find (is_called handle) files) there in
      rw (
        plain_at (is_called handle) files found.0 found.1,
        free,
        set_plain files handle found.0 (λ f. record f { name = name }) may.theirs.distinct found.1,
      ) refl
  makes (Edit handle edit) may = made_edit layout files handle edit next may.theirs.distinct (edit_fits may)
