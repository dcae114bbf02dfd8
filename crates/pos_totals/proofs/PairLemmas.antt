-- Files and their tags in one list.
use Rattle.pos_totals.proofs.Common.{File, List, None, Option, PlainFile, Some, FileTag, [], ap, arith, called}
use Rattle.pos_totals.proofs.Common.{get_or-le-sum_by, get_or_from_slice_get, handles_of, length, length-map, map-map}
use Rattle.pos_totals.proofs.Common.{nat_tests, numbers_of, plain, plain_file, refl, slice_get, slice_get-get_or}
use Rattle.pos_totals.proofs.Common.{slice_get_past, slice_get_within, suc, sym, tag_of, tags_of, total_size, with_tags}
use Rattle.pos_totals.proofs.Common.{zero, ℕ, ◌∙◌, ◌∷◌, ◌≡◌, ◌≤◌}

pub plain_of : (tags : List FileTag) (files : List PlainFile) → length tags ≡ length files
    → plain (with_tags tags files) ≡ files
plain_of [] [] same = refl
plain_of (tag ∷ tags) (file ∷ files) same = ap (λ rest. file ∷ rest) (plain_of tags files (omega (arith, same)))
plain_of tags files same = absurd (omega (arith, same))

pub tags_in : (tags : List FileTag) (files : List PlainFile) → length tags ≡ length files
    → tags_of (with_tags tags files) ≡ tags
tags_in [] [] same = refl
tags_in (tag ∷ tags) (file ∷ files) same = ap (λ rest. tag ∷ rest) (tags_in tags files (omega (arith, same)))
tags_in tags files same = absurd (omega (arith, same))

pub numbers_in : (tags : List FileTag) (files : List PlainFile) → length tags ≡ length files
    → handles_of (with_tags tags files) ≡ numbers_of tags
numbers_in tags files same = sym (map-map (λ (tag : FileTag). tag.handle) tag_of (with_tags tags files))
    ∙ ap numbers_of (tags_in tags files same)

pub called_again : (files : List File) → with_tags (tags_of files) (plain files) ≡ files
called_again [] = refl
called_again (file ∷ files) = ap (λ rest. file ∷ rest) (called_again files)

pub length-with_tags : (tags : List FileTag) (files : List PlainFile) → length tags ≡ length files
    → length (with_tags tags files) ≡ length files
length-with_tags tags files same = sym (length-map (with_tags tags files) plain_file)
    ∙ ap (λ (fs : List PlainFile). length fs) (plain_of tags files same)

-- a file at an index, and its tag
abbrev called_at : Option FileTag → Option PlainFile → Option File
called_at None file = None
called_at (Some tag) None = None
called_at (Some tag) (Some file) = Some (called tag file)

pub pair_at : (tags : List FileTag) (files : List PlainFile) (i : ℕ)
    → slice_get (with_tags tags files) i ≡ called_at (slice_get tags i) (slice_get files i)
pair_at [] files i = refl
pair_at (tag ∷ tags) [] zero = refl
pair_at (tag ∷ tags) [] (suc i) = grind (arith, nat_tests)
pair_at (tag ∷ tags) (file ∷ files) zero = refl
pair_at (tag ∷ tags) (file ∷ files) (suc i) = pair_at tags files i

pub ruleset placed = (pair_at, slice_get-get_or, slice_get_past, nat_tests)

-- the bytes of one file are at most those of all
pub one_of_sum : (files : List PlainFile) (i : ℕ) (file : PlainFile) → slice_get files i ≡ Some file
    → length file.bytes ≤ total_size files
one_of_sum files i file at = omega (
  arith,
  get_or-le-sum_by (λ (x : PlainFile). length x.bytes) files i file (slice_get_within files i file at),
  ap (λ (x : PlainFile). length x.bytes) (get_or_from_slice_get files i file file at),
)

-- what files with their tags have of the files, and of the tags
pub ruleset paired = (plain_of, tags_in, length-with_tags)
