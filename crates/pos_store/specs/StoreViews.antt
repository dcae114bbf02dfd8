-- What contracts see of a store.
use Rattle.std.specs.Prelude.{◌≡◌, ℕ, List, [], ◌∷◌, Option, Some, None, ⊤}
use Rattle.pos_disk.specs.State.{DiskState}
use Rattle.pos_disk.specs.declared.device.Disk.{Ghosts}
use Rattle.pos_dir.specs.declared.file.File.{File}
use Rattle.pos_image.specs.declared.layout.Layout.{Layout}
use Rattle.pos_image.specs.Layout.{layout_of}
use Rattle.pos_log.specs.Logs.{IsLogReady}
use Rattle.pos_store.specs.Layouts.{limits_of}
use Rattle.pos_store.specs.Standing.{Standing, Stands, HoldsFiles, LeavesOneOf}
use Rattle.pos_store.specs.declared.medium.StoreMedium.{StoreMedium}
use Rattle.pos_store.specs.declared.medium.StoreMedium.TheVariants as which
use Rattle.pos_store.specs.declared.store.Mode.{Mode}
use Rattle.pos_store.specs.declared.store.Mode.TheVariants as mode

-- Off, or ready with these files and the sequence of the image that they are from
pub data StoreState : Type 0 where
  Off : StoreState
  Ready : (files : List File) (sequence : ℕ) → StoreState

-- The disk, the layout that was found or made last (before the first recovery that of a new disk), and what the store
-- has of the disk. If it is ready, also the place in the current slot after its records, where the gate of the next one
-- is; else 0.
pub record StoreView (D : Type 0) : Type 0 where
  pub disk : D
  pub layout : Layout
  pub state : StoreState
  pub tail : ℕ

-- the files, if it is ready
abbrev pub files_of : StoreState → Option (List File)
files_of Off = None
files_of (Ready files sequence) = Some files

-- whether it is ready, and with which sequence
abbrev pub mode_of : StoreState → Mode
mode_of Off = mode.Off
mode_of (Ready files sequence) = mode.Ready sequence

-- P, if it is off
abbrev pub WhenOff : StoreState → Type 0 → Type 0
WhenOff Off P = P
WhenOff (Ready files sequence) P = ⊤

-- P, if it is ready
abbrev pub WhenReady : StoreState → Type 0 → Type 0
WhenReady Off P = ⊤
WhenReady (Ready files sequence) P = P

-- what the bytes stand for that a crash leaves: exactly its files if it is ready, else one of others
abbrev pub settled : Layout → StoreState → List Standing → List Standing
settled layout Off otherwise = otherwise
settled layout (Ready files sequence) otherwise = Stands layout files sequence ∷ []

-- if it is ready, a crash at this moment leaves exactly its files and their sequence
abbrev pub LeavesItsFiles : Layout → StoreState → DiskState → Type 0
LeavesItsFiles layout Off disk = ⊤
LeavesItsFiles layout (Ready files sequence) disk = LeavesOneOf (Stands layout files sequence ∷ []) disk

-- what the parts of a store mean
abbrev pub view_of : {D : Type 0} → StoreMedium D → StoreView D
view_of (which.Off disk layout) = record { disk = disk; layout = layout; state = Off; tail = 0 }
view_of (which.Ready log directory) = record {
  disk = log.images.disk;
  layout = layout_of log.images.slot;
  state = Ready directory.files log.images.sequence;
  tail = log.tail;
}

-- the same store turned off
abbrev pub off_of : {D : Type 0} → StoreMedium D → StoreMedium D
off_of (which.Off disk layout) = which.Off disk layout
off_of (which.Ready log directory) = which.Off log.images.disk (layout_of log.images.slot)

-- if it is ready, so is its log, the disk holds the files, and the directory has the limits of its layout
abbrev pub HasItsFiles : {D : Type 0} → Ghosts D → StoreMedium D → Type 0
HasItsFiles bound (which.Off disk layout) = ⊤
HasItsFiles bound (which.Ready log directory) =
    IsLogReady bound log
    × (bound.honest log.images.disk
    → HoldsFiles (layout_of log.images.slot) directory.files log.images.sequence
    (bound.state log.images.disk).reading)
    × (directory.limits ≡ limits_of (layout_of log.images.slot))
