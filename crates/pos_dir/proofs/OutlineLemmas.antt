-- A check over names and sizes answers as the change of the files that have them.
use Rattle.pos_dir.proofs.Common.{Agrees, AreOutlines, Bool, Change, DirectoryFault, File, IsChange, IsDirectory}
use Rattle.pos_dir.proofs.Common.{Limits, List, Ok, Outline, Result, Shape, Some, [], and_then, ap, arith, at_drop_more}
use Rattle.pos_dir.proofs.Common.{bytes_eq, drop, get_or, has_name, insert, is_named, length, length-map, list_any, map}
use Rattle.pos_dir.proofs.Common.{nat_tests, option_map, outcome, outcome_of_all, refl, remove, set}
use Rattle.pos_dir.proofs.Common.{shape_of, shape_of_file, size_in, slice_get, slice_get-get_or, slice_get-map}
use Rattle.pos_dir.proofs.Common.{slice_get_within, suc, sum_by, sum_by-cons, sym, total_size, zero, ℕ, ◌+◌, ◌<◌, ◌||◌}
use Rattle.pos_dir.proofs.Common.{◌∙◌, ◌∷◌, ◌≡◌, ◌≤◌}
use Rattle.pos_dir.proofs.ChangeLemmas.{changed}

-- ---- lists seen by another function

pub list_any-map : {X Y : Type 0} (f : X → Y) (p : Y → Bool) (xs : List X)
    → list_any p (map f xs) ≡ list_any (λ x. p (f x)) xs
list_any-map f p [] = refl
list_any-map f p (x ∷ xs) = ap (λ b. p (f x) || b) (list_any-map f p xs)

pub sum_by-map : {X Y : Type 0} (f : X → Y) (size : Y → ℕ) (xs : List X)
    → sum_by size (map f xs) ≡ sum_by (λ x. size (f x)) xs
sum_by-map f size [] = refl
sum_by-map f size (x ∷ xs) = omega (
  arith,
  sum_by-cons size (f x) (map f xs),
  sum_by-cons (λ y. size (f y)) x xs,
  sum_by-map f size xs,
)

-- an element taken out, and another put in its place
pub remove-insert : {X : Type 0} (xs : List X) (i : ℕ) (x : X) → i < length xs → insert (remove xs i) i x ≡ set xs i x
remove-insert [] i x lt = absurd (omega arith)
remove-insert (y ∷ xs) zero x lt = refl
remove-insert (y ∷ xs) (suc i) x lt = ap (λ ys. y ∷ ys) (remove-insert xs i x (omega arith))

-- ---- what outlines tell of the files

-- a name is taken among the files as among the outlines
pub same_name : (outlines : List Outline) (files : List File) (name : List ℕ) → AreOutlines outlines files
    → has_name files name ≡ is_named outlines name
same_name outlines files name same =
    let named = λ (shape : Shape). bytes_eq shape.name name in
    cc (list_any-map shape_of_file named files, list_any-map shape_of named outlines)

pub same_count : (outlines : List Outline) (files : List File) → AreOutlines outlines files
    → length files ≡ length outlines
same_count outlines files same = omega (
  arith,
  length-map outlines shape_of,
  length-map files shape_of_file,
  ap (λ (shapes : List Shape). length shapes) same,
)

-- the sizes are the same in sum
pub same_total : (outlines : List Outline) (files : List File) → AreOutlines outlines files
    → total_size files ≡ sum_by (λ outline. outline.size) outlines
same_total outlines files same =
    cc (sum_by-map shape_of_file (λ shape. shape.size) files, sum_by-map shape_of (λ shape. shape.size) outlines)

-- the file at an index has the shape of its outline
pub file_at : (outlines : List Outline) (files : List File) (i : ℕ) (o : Outline) → AreOutlines outlines files
    → slice_get outlines i ≡ Some o
    → (file : File) × (slice_get files i ≡ Some file) × (shape_of_file file ≡ shape_of o)
file_at outlines files i o same at =
    let none : File = record { name = []; bytes = [] } in
    let here =
    slice_get-get_or files i none (omega (arith, slice_get_within outlines i o at, same_count outlines files same)) in
    (get_or files i none, here, cc (slice_get-map shape_of_file files i, slice_get-map shape_of outlines i))

-- ---- a change of a file

-- the sizes are those of the files
pub same_size : (outlines : List Outline) (files : List File) (i : ℕ) → AreOutlines outlines files
    → option_map (λ outline. outline.size) (slice_get outlines i) ≡ size_in files i
same_size outlines files i same = grind (arith, slice_get-map shape_of outlines i, slice_get-map shape_of_file files i)

-- ---- the walk over a group

-- the outlines are those of files of which the rest of the group makes what the whole makes
abbrev pub IsStage : Limits → List Outline → List Change → Result (List File) DirectoryFault → Type 0
IsStage limits outlines rest total = (files : List File) × IsDirectory limits files × AreOutlines outlines files
    × (outcome_of_all limits files rest ≡ total)

module _ (limits : Limits) (outlines : List Outline) (changes : List Change) (i : ℕ) (change : Change)
    (total : Result (List File) DirectoryFault) (lt : i < length changes) (at : change ≡ get_or changes i change)
    (stage : IsStage limits outlines (drop i changes) total) where
  -- the changes from one on: it, and then the rest
  split : and_then (outcome limits stage.0 change) (λ files. outcome_of_all limits files (drop (i + 1) changes)) ≡ total
  split = sym (rw (← at) at (at_drop_more (outcome_of_all limits stage.0) changes i change lt)) ∙ stage.3

  -- a change that agrees leads on
  pub stage_on : (next : List Outline) → IsChange change
      → ((files : List File) → AreOutlines outlines files → Agrees (Ok tt) (outcome limits files change) next)
      → IsStage limits next (drop (i + 1) changes) total
  stage_on next takes made =
      let one = made stage.0 stage.2 in
      (one.0, changed stage.1 takes one.1, one.2, rw one.1 at split)

-- at each stage the sizes fit
pub stage_room : {limits : Limits} (outlines : List Outline) (rest : List Change)
    {total : Result (List File) DirectoryFault} → IsStage limits outlines rest total
    → sum_by (λ outline. outline.size) outlines ≤ limits.bytes
stage_room outlines rest stage = omega (arith, same_total outlines stage.0 stage.2, stage.1.size)

-- what outlines tell of the files
pub ruleset outlining = (same_name, same_count, same_total, nat_tests)
