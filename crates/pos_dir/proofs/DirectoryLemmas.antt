-- A directory that is read is the one that was spelled.
use Rattle.pos_dir.proofs.Common.{AllByRecursion, AreWritable, File, IsDirectory, Limits, List, None, Some, []}
use Rattle.pos_dir.proofs.Common.{and_parts, ap, arith, body_limit, directory_at, file_at, file_spelling, flat_map}
use Rattle.pos_dir.proofs.Common.{is_end, is_name, is_sound, length, length-append, list_all, lit<, name_spelling}
use Rattle.pos_dir.proofs.Common.{nat_tests, refl, spelling, sum_by-cons, text_spelling, total_size, true, ℕ, ◌&&◌, ◌*◌}
use Rattle.pos_dir.proofs.Common.{◌+◌, ◌<◌, ◌^◌, ◌∷◌, ◌≡◌, ◌≤◌}
use Rattle.pos_dir.specs.declared.file.TheConstants.{LAYOUT_1, LAYOUT_2}
use Rattle.pos_dir.proofs.ItemLemmas.{counted_again, counted_take}
use Rattle.pos_dir.proofs.FieldLemmas.{IsBytes, IsReader, both_again, both_take, name_reads, text_reads}

-- a file that has a spelling
abbrev pub IsFile : File → Type 0
IsFile file = (is_name file.name ≡ true) × (length file.bytes < 2 ^ 32)

abbrev make_file : List ℕ → List ℕ → File
make_file name text = record { name = name; bytes = text }

-- a file is read as it is spelled
pub file_reads : IsReader file_at file_spelling IsFile
unfolding file_at
file_reads = record {
  takes = both_take make_file name_reads text_reads [] file_spelling IsFile (λ name text. refl)
      (λ name text good short. (good, short));
  again = λ x rest fits. both_again make_file name_reads text_reads x.name x.bytes rest fits.0 fits.1;
}

-- ---- the files of a directory

good_names : (files : List File) → AllByRecursion IsFile files → list_all (λ file. is_name file.name) files ≡ true
good_names [] fits = refl
good_names (file ∷ files) fits =
    let (file_fits, others_fit) = fits in
    grind (arith, nat_tests, file_fits.0, good_names files others_fit)

are_files : (files : List File) {limit : ℕ} → limit < 2 ^ 32 → total_size files ≤ limit
    → list_all (λ file. is_name file.name) files ≡ true → AllByRecursion IsFile files
are_files [] low small named = tt
are_files (file ∷ files) low small named =
    let sum = sum_by-cons (λ (x : File). length x.bytes) file files in
    let others : list_all (λ x. is_name x.name) files ≡ true = grind (arith, nat_tests) in (
      (grind (arith, nat_tests), omega (arith, sum, small, low)),
      are_files files low (omega (arith, sum, small)) others,
    )

-- What is read as a directory is one, and is spelled so.
pub directory_takes : (limits : Limits) (bytes : List ℕ) (files : List File) → IsBytes bytes
    → directory_at limits bytes ≡ Some files → IsDirectory limits files × (bytes ≡ spelling files)
unfolding directory_at
directory_takes limits bytes files fits e =
    let t = counted_take file_reads (λ x. is_sound limits x.0 && is_end x.1)
    (λ x test. grind (arith, nat_tests)) bytes files fits e in
    let test : is_sound limits files ≡ true = grind (arith, nat_tests, t.0) in (
      record {
        count = grind (arith, nat_tests);
        size = grind (arith, nat_tests);
        named = good_names files t.1;
        distinct = grind (arith, nat_tests);
      },
      t.3,
    )

-- What is spelled so is read.
pub directory_again : (limits : Limits) (files : List File) → AreWritable limits → IsDirectory limits files
    → directory_at limits (spelling files) ≡ Some files
unfolding directory_at
directory_again limits files writable h =
    counted_again file_reads (λ x. is_sound limits x.0 && is_end x.1) files (omega (arith, h.count, writable.files))
    (are_files files writable.bytes h.size h.named) (grind (arith, nat_tests, h.count, h.size, h.distinct))

-- No two directories are spelled alike.
pub one_spelling : (limits : Limits) (files others : List File) → AreWritable limits → IsDirectory limits files
    → IsDirectory limits others → spelling files ≡ spelling others → files ≡ others
one_spelling limits files others writable h g same = cc (
  directory_again limits files writable h,
  ap (directory_at limits) same,
  directory_again limits others writable g,
)

-- ---- how long a spelling is

length_files : (files : List File) → list_all (λ file. is_name file.name) files ≡ true
    → length (flat_map file_spelling files) ≤ 15 * length files + total_size files
length_files [] named = omega arith
length_files (file ∷ files) named =
    let sum = sum_by-cons (λ (x : File). length x.bytes) file files in
    let parts = and_parts (is_name file.name) (list_all (λ x. is_name x.name) files) named in
    let short : length file.name ≤ 10 = grind (arith, nat_tests, parts.0) in
    let one = length-append (name_spelling file.name) (text_spelling file.bytes) in
    omega (
      arith,
      length-append (file_spelling file) (flat_map file_spelling files),
      one,
      short,
      sum,
      length_files files parts.1,
    )

-- the spelling of a directory is no longer than a body may be
pub length-spelling : {limits : Limits} {files : List File} → IsDirectory limits files
    → length (spelling files) ≤ body_limit limits
length-spelling {files} h = omega (arith, length_files files h.named, h.count, h.size)

-- the widths hold the limits of both layouts
pub layout_1_writable : AreWritable LAYOUT_1
layout_1_writable = record { files = lit< tt; bytes = lit< tt }

pub layout_2_writable : AreWritable LAYOUT_2
layout_2_writable = record { files = lit< tt; bytes = lit< tt }

-- what spells no directory
pub no_body : (limits : Limits) (bytes : List ℕ) (files : List File) → AreWritable limits
    → directory_at limits bytes ≡ None → IsDirectory limits files → bytes ≡ spelling files → ⊥
no_body limits bytes files writable none h same =
    cc (ap (directory_at limits) same, directory_again limits files writable h)
