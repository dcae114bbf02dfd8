-- What files the bytes of a disk hold, after a call that kept its image or its records.
use Rattle.pos_store.proofs.Common.{Applies, File, Ghosts, HasNoRecords, HasOldOrNew, HoldsFiles, HoldsRecords}
use Rattle.pos_store.proofs.Common.{IsDirectory, IsReady, IsStep, Layout, Layout1, LeavesOneOf, Limits, List, LogView}
use Rattle.pos_store.proofs.Common.{Ready, Stands, StandsFor, StoreView, View, [], arith, layout_of, limits_of}
use Rattle.pos_store.proofs.Common.{no_files, no_records, refl, spelling, ℕ, ◌++◌, ◌∷◌, ◌≡◌, ◌⊎◌}
use Rattle.pos_image.specs.Standing as image

-- the texts lead one step further
pub applies_more : (limits : Limits) (texts : List (List ℕ)) (files last : List File) (text : List ℕ) (next : List File)
    → Applies limits files texts last → IsStep limits last text next → Applies limits files (texts ++ text ∷ []) next
applies_more limits [] files last text next applies step = (next, rw applies step, refl)
applies_more limits (first ∷ texts) files last text next applies step =
    (applies.0, applies.1, applies_more limits texts applies.0 last text next applies.2 step)

-- what the disk of images that are ready shows
pub shows_now : {D : Type 0} (bound : Ghosts D) {images : View D} → IsReady bound images → bound.honest images.disk
    → image.ShowsImage (layout_of images.slot) images.body images.sequence (bound.state images.disk).reading
shows_now bound {images} ready honest = (ready.leaves honest (bound.state images.disk).reading
    (record { same_length = refl; settled = λ i tight. refl })).image

module _ {layout : Layout} {files : List File} {sequence : ℕ} {bytes body : List ℕ}
    (holds : HoldsFiles layout files sequence bytes) (shows : image.ShowsImage layout body sequence bytes)
    (c : List ℕ) where
  -- and with the same records they hold the same files
  pub still_holds : image.ShowsImage layout body sequence c → HoldsRecords holds.texts (image.log_of c)
      → HoldsFiles layout files sequence c
  still_holds here log = grind arith

  pub has_image_holds : image.HasImage layout body sequence (image.log_of bytes) c → HoldsFiles layout files sequence c
  has_image_holds has = still_holds has.image (rw has.log holds.log)

  -- with the record of one group more, the files after it
  pub holds_more : {after : List File} {text : List ℕ} → IsStep (limits_of layout) files text after
      → image.ShowsImage layout body sequence c → HoldsRecords (holds.texts ++ text ∷ []) (image.log_of c)
      → HoldsFiles layout after sequence c
  holds_more {after = after} {text = text} step here log = grind (arith, applies_more)

-- a new image holds the files that its body spells
pub holds_new : {layout : Layout} {after : List File} {sequence : ℕ} {body : List ℕ} (c : List ℕ)
    → IsDirectory (limits_of layout) after → body ≡ spelling after → HasNoRecords layout body sequence c
    → HoldsFiles layout after sequence c
holds_new c sound spelled new = grind arith

-- the old image with its records holds the files, and a new one those that its body spells
pub old_or_new_holds : {D : Type 0} (images : View D) {files after : List File} {bytes : List ℕ} {layout : Layout}
    {body : List ℕ} {sequence : ℕ} (c : List ℕ) → HoldsFiles (layout_of images.slot) files images.sequence bytes
    → image.ShowsImage (layout_of images.slot) images.body images.sequence bytes → IsDirectory (limits_of layout) after
    → body ≡ spelling after → HasOldOrNew images (image.log_of bytes) layout body sequence c
    → HoldsFiles (layout_of images.slot) files images.sequence c ⊎ HoldsFiles layout after sequence c
old_or_new_holds images c holds shows sound spelled either = grind (arith, has_image_holds, holds_new)

-- a store that is ready, with this log and these files
abbrev pub ready_with : {D : Type 0} → LogView D → List File → StoreView D
ready_with log files = record {
  disk = log.images.disk;
  layout = layout_of log.images.slot;
  state = Ready files log.images.sequence;
  tail = log.tail;
}

-- images that are ready leave the files that their disk holds
pub leaves_files : {D : Type 0} {bound : Ghosts D} {images : View D} {files : List File} → IsReady bound images
    → (bound.honest images.disk
    → HoldsFiles (layout_of images.slot) files images.sequence (bound.state images.disk).reading)
    → bound.honest images.disk
    → LeavesOneOf (Stands (layout_of images.slot) files images.sequence ∷ []) (bound.state images.disk)
leaves_files ready holds honest c may = grind (arith, has_image_holds, shows_now)

-- a disk that was formatted stands for no files by layout 1, with sequence 1
pub new_standing : (bytes : List ℕ) → image.HasNewImage Layout1 no_files 1 bytes → StandsFor (Stands Layout1 [] 1) bytes
new_standing bytes new = grind (arith, holds_new, no_records)
