-- What each change makes of the files. The other proofs go by what is made, and not by which change it is.
use Rattle.pos_dir.proofs.Common.{Change, DirectoryFault, Err, File, Limits, List, NoMemory, None, Ok, Option, Range}
use Rattle.pos_dir.proofs.Common.{Result, Some, [], answer_by_size, arith, cond, false, flaw_of, has_name, is_name}
use Rattle.pos_dir.proofs.Common.{least_size_of, length, length-append, length-drop, length-replicate, length-take, map}
use Rattle.pos_dir.proofs.Common.{nat_le, nat_tests, option_map, outcome, refl, remove, replicate, set, shape_of_file}
use Rattle.pos_dir.proofs.Common.{size_in, slice_get, slice_set, splice, subst, suc, sym, total_size, true, with_file}
use Rattle.pos_dir.proofs.Common.{zero, ℕ, ◌++◌, ◌+◌, ◌<◌, ◌∙◌, ◌∷◌, ◌≡◌, ◌≤◌}
use Rattle.pos_dir.proofs.FieldLemmas.{some_is}
use Rattle.pos_dir.specs.declared.change.Change.TheVariants.{Create, Delete, Rename, SetAll, Write}

-- the file that a lookup that led to Ok found
found : (o : Option File) {f : File → Result (List File) DirectoryFault} {y : List File} → with_file o f ≡ Ok y
    → (x : File) × (o ≡ Some x) × (f x ≡ Ok y)
found None h = absurd cc
found (Some x) h = (x, refl, h)

-- ---- a change of the bytes of one file

-- bytes put in the place of others within a file leave its size
length-splice : (old : List ℕ) (at : ℕ) (bytes : List ℕ) → at + length bytes ≤ length old
    → length (splice old at bytes) ≡ length old
length-splice old at bytes fits = omega (arith, length-append {A = ℕ}, length-take {A = ℕ}, length-drop {A = ℕ})

-- what it makes of the file: another one in its place, where there are enough bytes
abbrev with_new : List File → ℕ × ℕ → (File → File) → File → Result (List File) DirectoryFault
with_new files place new_of file =
    cond (nat_le place.1 (length file.bytes)) (Ok (slice_set files place.0 (new_of file))) (Err Range)

record InFile (change : Change) (place : ℕ × ℕ) : Type 0 where
  new_of : File → File
  shape : (file : File) → place.1 ≤ length file.bytes → shape_of_file (new_of file) ≡ shape_of_file file
  made : (limits : Limits) (files : List File)
      → outcome limits files change ≡ with_file (slice_get files place.0) (with_new files place new_of)

in_file : (change : Change) (place : ℕ × ℕ) → Some place ≡ least_size_of change → InFile change place
in_file (Write index offset bytes) place e =
    subst (InFile (Write index offset bytes)) (some_is (index, offset + length bytes) place (sym e)) record {
      new_of = λ file. record file { bytes = splice file.bytes offset bytes };
      shape = λ file fits. rw (length-splice file.bytes offset bytes fits) refl;
      made = λ limits files. refl;
    }
in_file (SetAll index value) place e = subst (InFile (SetAll index value)) (some_is (index, 0) place (sym e)) record {
  new_of = λ file. record file { bytes = replicate (length file.bytes) value };
  shape = λ file fits. rw (length-replicate {A = ℕ} (length file.bytes) value) refl;
  made = λ limits files. grind (arith, nat_tests);
}
in_file other place e = absurd cc

-- an answer is that of a change with this outcome, which leaves the names and sizes of the files
abbrev pub KeepsShapes : List File → Result (Unit {0}) DirectoryFault → Result (List File) DirectoryFault → Type 0
KeepsShapes files (Ok _) expected =
    (next : List File) × (expected ≡ Ok next) × (map shape_of_file next ≡ map shape_of_file files)
KeepsShapes files (Err fault) expected = expected ≡ Err fault

same_shapes : (files : List File) (i : ℕ) (old new : File) → slice_get files i ≡ Some old
    → shape_of_file new ≡ shape_of_file old → map shape_of_file (set files i new) ≡ map shape_of_file files
same_shapes [] i old new at same = refl
same_shapes (f ∷ files) zero old new at same = cc
same_shapes (f ∷ files) (suc i) old new at same = cc (same_shapes files i old new at same)

by_file : (files : List File) (place : ℕ × ℕ) (new_of : File → File) (there : Option File)
    → slice_get files place.0 ≡ there
    → ((file : File) → place.1 ≤ length file.bytes → shape_of_file (new_of file) ≡ shape_of_file file)
    → KeepsShapes files (answer_by_size (option_map (λ file. length file.bytes) there) place.1)
    (with_file there (with_new files place new_of))
by_file files place new_of None at shape = refl
by_file files place new_of (Some file) at shape =
    grind (arith, nat_tests, shape file, same_shapes files place.0 file (new_of file) at)

-- it is answered by the size of the file
pub answered : (limits : Limits) (files : List File) (change : Change) (place : ℕ × ℕ)
    → Some place ≡ least_size_of change
    → KeepsShapes files (answer_by_size (size_in files place.0) place.1) (outcome limits files change)
answered limits files change place e =
    let it = in_file change place e in
    rw (it.made limits files) (by_file files place it.new_of (slice_get files place.0) refl it.shape)

-- ---- what a change makes that is applicable

pub data Makes (limits : Limits) (files : List File) (change : Change) (next : List File) : Type 0 where
  Adds : (file : File) → (flaw_of change ≡ None → is_name file.name ≡ true) → has_name files file.name ≡ false
      → length files < limits.files → total_size files + length file.bytes ≤ limits.bytes → files ++ file ∷ [] ≡ next
      → Makes limits files change next
  Removes : (i : ℕ) (old : File) → slice_get files i ≡ Some old → remove files i ≡ next → Makes limits files change next
  Renames : (i : ℕ) (old new : File) → slice_get files i ≡ Some old → (flaw_of change ≡ None → is_name new.name ≡ true)
      → has_name files new.name ≡ false → length new.bytes ≡ length old.bytes → set files i new ≡ next
      → Makes limits files change next
  Rewrites : (i : ℕ) (old new : File) → slice_get files i ≡ Some old → shape_of_file new ≡ shape_of_file old
      → set files i new ≡ next → Makes limits files change next

rewrites : (limits : Limits) (files : List File) {next : List File} (change : Change) (place : ℕ × ℕ)
    → Some place ≡ least_size_of change → outcome limits files change ≡ Ok next → Makes limits files change next
rewrites limits files change place e h =
    let it = in_file change place e in
    let at = found (slice_get files place.0) (sym (it.made limits files) ∙ h) in
    Rewrites place.0 at.0 (it.new_of at.0) at.1 (it.shape at.0 (grind (arith, nat_tests, at.2)))
    (grind (arith, nat_tests, at.2))

pub makes : {limits : Limits} {files next : List File} (change : Change) → outcome limits files change ≡ Ok next
    → Makes limits files change next
makes (Create name size) h = Adds (record { name = name; bytes = replicate size 0 })
    (λ flawless. grind (arith, nat_tests)) (grind (arith, nat_tests)) (grind (arith, nat_tests))
    (grind (arith, nat_tests, length-replicate {A = ℕ} size 0)) (grind (arith, nat_tests))
makes {files} (Delete index) h =
    let at = found (slice_get files index) h in
    Removes index at.0 at.1 (cc (at.2))
makes {files} (Rename index name) h =
    let at = found (slice_get files index) h in
    Renames index at.0 (record at.0 { name = name }) at.1 (λ flawless. grind (arith, nat_tests))
    (grind (arith, nat_tests, at.2)) refl (grind (arith, nat_tests, at.2))
makes {limits} {files} other h = rewrites limits files other _ refl h

-- want of memory is no fault of a change
pub never_one : (limits : Limits) (files : List File) (change : Change) → outcome limits files change ≡ Err NoMemory → ⊥
never_one limits files change e = grind (arith, nat_tests)
