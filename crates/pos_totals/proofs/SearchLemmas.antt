-- What a search through the directory, or through the tags, finds among the files with their tags.
use Rattle.pos_totals.proofs.Common.{DirectoryView, File, FoundFile, HasDirectory, Holdings, IfSome, IsDirectory}
use Rattle.pos_totals.proofs.Common.{IsSound, Layout, List, None, Option, PlainFile, Some, State, StoreOff, StoreReady}
use Rattle.pos_totals.proofs.Common.{FileTag, [], ap, arith, bytes_eq, cond, false, file_of, find, find_at, index_of}
use Rattle.pos_totals.proofs.Common.{is_called, is_named, is_natural, length, limits_of, nat_eq, nat_tests, not}
use Rattle.pos_totals.proofs.Common.{option_map, pos, position_or_len, prefix_len-le-length, refl, slice_get_past}
use Rattle.pos_totals.proofs.Common.{store_files_of, sym, with_tags, ℕ, ℤ, ◌+◌, ◌∙◌, ◌∷◌, ◌≡◌}
use Rattle.pos_totals.proofs.PairLemmas.{length-with_tags}
use Rattle.pos_totals.proofs.PlaceLemmas.{found_meets}

pub index_by_name : (tags : List FileTag) (files : List PlainFile) (name : List ℕ) → length tags ≡ length files
    → index_of (is_named name) (with_tags tags files) ≡ position_or_len (λ file. bytes_eq file.name name) files
index_by_name [] [] name same = refl
index_by_name (tag ∷ tags) (file ∷ files) name same =
    ap (λ n. cond (not (bytes_eq file.name name)) (1 + n) 0) (index_by_name tags files name (omega (arith, same)))
index_by_name tags files name same = absurd (omega (arith, same))

pub index_by_handle : (tags : List FileTag) (files : List PlainFile) (handle : ℕ) → length tags ≡ length files
    → index_of (is_called (pos handle)) (with_tags tags files) ≡ position_or_len (λ tag. nat_eq tag.handle handle) tags
index_by_handle [] [] handle same = refl
index_by_handle (first ∷ tags) (file ∷ files) handle same = ap (λ n. cond (not (nat_eq first.handle handle)) (1 + n) 0)
    (index_by_handle tags files handle (omega (arith, same)))
index_by_handle tags files handle same = absurd (omega (arith, same))

-- what a search through the tags, or through the directory, finds
pub ruleset searched = (
  index_by_name,
  index_by_handle,
  length-with_tags,
  prefix_len-le-length,
  find_at,
  slice_get_past,
  nat_tests,
)

-- no file has a handle below 0
pub none_below : (handle : ℤ) (files : List File) → is_natural handle ≡ false → find (is_called handle) files ≡ None
none_below handle [] negative = refl
none_below handle (first ∷ files) negative = grind (arith, nat_tests, none_below handle files negative)

-- a file that was found has the handle
pub called_found : (handle : ℤ) (files : List File) (found : Option FoundFile)
    → option_map file_of found ≡ find (is_called handle) files → IfSome found (λ f. handle ≡ pos f.handle)
called_found handle files None is = tt
called_found handle files (Some f) is =
    grind (arith, nat_tests, found_meets (is_called handle) files (file_of f) (sym is))

-- a store that shows files is ready: they are a directory within the limits of the layout that was found, and each has
-- a tag
pub shows : {layout : Layout} (state : State) {holdings : Holdings} {directory : DirectoryView}
    → IsSound layout state holdings → Some directory.files ≡ store_files_of state → directory.limits ≡ limits_of layout
    → IsDirectory directory.limits directory.files → HasDirectory holdings.layout state
    × IsDirectory (limits_of holdings.layout) directory.files × (length holdings.handles.given ≡ length directory.files)
shows StoreOff sound is limits within = absurd cc
shows (StoreReady files sequence) {holdings} {directory} sound is limits within =
    let same : directory.files ≡ files = cc in
    let found : IsDirectory (limits_of holdings.layout) directory.files = rw (limits, sound.found) at within in
    (rw same at found, found, sound.handles.count ∙ ap length (sym same))
