-- What a write into the log span leaves, up to its sync.
use Rattle.std.specs.Prelude.{◌≡◌, ℕ, List}
use Rattle.pos_disk.specs.State.{DiskState, LeavesOnly, splice}
use Rattle.pos_disk.specs.Within.{SameBut}
use Rattle.pos_image.specs.Standing.{ShowsImage, log_of}
use Rattle.pos_image.specs.Images.{View}
use Rattle.pos_image.specs.Layout.{layout_of}
use Rattle.pos_image.specs.declared.layout.Layout.{Layout}

-- The current image is there, and of the log span only n bytes from a place on differ.
pub record KeepsSpan (layout : Layout) (body : List ℕ) (sequence : ℕ) (at n : ℕ) (span bytes : List ℕ) : Type 0 where
  pub image : ShowsImage layout body sequence bytes
  pub log : SameBut at n span (log_of bytes)

-- whenever a crash came, no more had happened
abbrev pub CrashKeepsSpan : {D : Type 0} → View D → ℕ → ℕ → DiskState → DiskState → Type 0
CrashKeepsSpan images at n old new =
    LeavesOnly old new (KeepsSpan (layout_of images.slot) images.body images.sequence at n (log_of old.reading))

-- the log span has these bytes at this place, and is as it was elsewhere
abbrev pub PutsBytes : ℕ → List ℕ → DiskState → DiskState → Type 0
PutsBytes at bytes old new = log_of new.reading ≡ splice (log_of old.reading) at bytes
