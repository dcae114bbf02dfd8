-- What an edit does to its file, to the directory, and to the handles.
use Rattle.pos_totals.proofs.Common.{FileChange, FileEdit, HasPlace, Limits, List, Ok, PlainFile, Some, FileTag, arith}
use Rattle.pos_totals.proofs.Common.{edit_change, edit_in, edited, false, fits, following, given_after, is_some, lacks}
use Rattle.pos_totals.proofs.Common.{length, length-append, length-drop, length-replicate, length-take, nat_abs}
use Rattle.pos_totals.proofs.Common.{nat_tests, outcome, refl, slice_get, slice_set, true, value_after, ℕ, ◌+◌, ◌≡◌}
use Rattle.pos_totals.proofs.Common.{◌≤◌}
use Rattle.pos_service.specs.declared.answer.Value.TheVariants as value
use Rattle.pos_totals.specs.Edits.{SetAll, Write}

-- one that fits keeps the size of its file
pub keeps_size : (edit : FileEdit) (old : List ℕ) → fits (length old) edit ≡ true
    → length (edited edit old) ≡ length old
keeps_size (Write offset bytes) old fit =
    let within : nat_abs offset + length bytes ≤ length old = grind (arith, nat_tests) in
    omega (arith, length-append {A = ℕ}, length-take {A = ℕ}, length-drop {A = ℕ})
keeps_size (SetAll n) old fit = length-replicate (length old) (nat_abs n)

-- the directory after it has the file with the bytes after it
pub makes_edit : (limits : Limits) (files : List PlainFile) (index : ℕ) (edit : FileEdit) {file : PlainFile}
    → slice_get files index ≡ Some file → fits (length file.bytes) edit ≡ true → outcome limits files
    (edit_change index edit) ≡ Ok (slice_set files index (record file { bytes = edited edit file.bytes }))
makes_edit limits files index (Write offset bytes) at fit = rw at (grind (arith, nat_tests))
makes_edit limits files index (SetAll n) at fit = rw at refl

-- the change of the directory is read as an edit
pub is_edit : (index : ℕ) (edit : FileEdit) → is_some (edit_in (edit_change index edit)) ≡ true
is_edit index (Write offset bytes) = refl
is_edit index (SetAll n) = refl

-- A change of the directory leaves the handles as they are.
pub record KeepsHandles (made : FileChange) : Type 0 where
  pub lack : (next : ℕ) → lacks next made ≡ false
  pub place : (given : List FileTag) (next : ℕ) → HasPlace given next made
  pub given : (given : List FileTag) (next : ℕ) → given_after given next made ≡ given
  pub next : (next : ℕ) → following next made ≡ next
  pub value : (next : ℕ) → value_after next made ≡ value.Empty

pub keeps_handles : (index : ℕ) (edit : FileEdit) → KeepsHandles (edit_change index edit)
keeps_handles index (Write offset bytes) =
    record { lack = λ n. refl; place = λ g n. tt; given = λ g n. refl; next = λ n. refl; value = λ n. refl }
keeps_handles index (SetAll n) =
    record { lack = λ n. refl; place = λ g n. tt; given = λ g n. refl; next = λ n. refl; value = λ n. refl }
