-- What a move to layout 2 answers, and what a crash during it may leave.
use Rattle.std.specs.Prelude.{◌≡◌, ◌⊎◌, ◌<◌, ℕ, List, length, get_or, [], ◌∷◌, Result, Ok, Err, IsErrOf, ⊤}
use Rattle.pos_disk.specs.State.{DiskState, Rises, HasNotFailed}
use Rattle.pos_disk.specs.Keeps.{KeepsDisk}
use Rattle.pos_disk.specs.declared.device.Disk.{Ghosts}
use Rattle.pos_dir.specs.declared.file.File.{File}
use Rattle.pos_image.specs.Layout.{log_place, start}
use Rattle.pos_image.specs.declared.layout.Layout.{Layout}
use Rattle.pos_image.specs.declared.layout.Layout.TheVariants.{Layout1, Layout2}
use Rattle.pos_image.specs.declared.slot.Slot.TheVariants.{Third}
use Rattle.pos_store.specs.StoreViews.{StoreState, StoreView, Off, Ready, settled}
use Rattle.pos_store.specs.Standing.{Stands, Passes}
use Rattle.pos_store.specs.declared.fault.StoreFault.{StoreFault}
use Rattle.pos_store.specs.declared.fault.StoreFault.TheVariants as fault

-- what a store of layout 1 with these files answers: it is of layout 2 then, with the same files, sequence 1 and no
-- records, or it hasn't changed, or a fault of the disk turns it off
abbrev pub Moves : {D : Type 0} → List File → StoreView D → Result (Unit {0}) StoreFault → StoreView D → Type 0
Moves files old (Ok _) new =
    new ≡ record { disk = new.disk; layout = Layout2; state = Ready files 1; tail = log_place Layout2 }
Moves files old (Err fault.NoMemory) new = new ≡ old
Moves files old (Err fault.Device) new = (new.state ≡ Off) × (new.layout ≡ old.layout)
Moves files old (Err other) new = ⊥

-- what a migration answers, and the store after it, by the state and the layout before it: a store that is off answers
-- Off, and one of layout 2 AlreadyLayout2
abbrev pub AnswersMigration : {D : Type 0} → StoreState → Layout → StoreView D → Result (Unit {0}) StoreFault
    → StoreView D → Type 0
AnswersMigration Off layout old result new = (result ≡ Err fault.Off) × (new ≡ old)
AnswersMigration (Ready files sequence) Layout1 old result new = Moves files old result new
AnswersMigration (Ready files sequence) Layout2 old result new = (result ≡ Err fault.AlreadyLayout2) × (new ≡ old)

-- what a crash leaves around a migration, by the store before it and the layout and state after: the same files at
-- every moment, by the layout before or by layout 2; if it is off then, by either
abbrev pub LeavesItsFilesMoved : Layout → StoreState → Layout → StoreState → DiskState → DiskState → Type 0
LeavesItsFilesMoved layout Off then_layout now old new = ⊤
LeavesItsFilesMoved layout (Ready files sequence) then_layout now old new =
    Passes old new (Stands layout files sequence ∷ [])
    (settled then_layout now (Stands layout files sequence ∷ Stands Layout2 files 1 ∷ []))

-- Each byte of the slots of layout 1, and so each of their gates, is as it was.
pub record KeepsFirstLayout (old new : List ℕ) : Type 0 where
  pub same_length : length new ≡ length old
  pub each : (i : ℕ) → i < start Third → get_or new i 0 ≡ get_or old i 0

-- What a migration does. About the disk itself, and about what a crash may leave, it says something only if the disk is
-- honest.
pub record Migrates {D : Type 0} (bound : Ghosts D) (old : StoreView D) (result : Result (Unit {0}) StoreFault)
    (new : StoreView D) : Type 0 where
  pub answer : AnswersMigration old.state old.layout old result new
  -- a crash at any moment of the call leaves the same files by one layout or the other, and a crash now exactly those
  -- of the layout that the store has; after a fault of the disk either
  pub crash : bound.honest old.disk → LeavesItsFilesMoved old.layout old.state new.layout new.state
      (bound.state old.disk) (bound.state new.disk)
  -- whatever it answers, no slot of layout 1 was written, and none closed
  pub rest : bound.honest old.disk → KeepsFirstLayout (bound.state old.disk).reading (bound.state new.disk).reading
  -- the disk failed if its fault is answered
  pub device : bound.honest old.disk → IsErrOf result fault.Device
      → Rises (bound.state old.disk).failures (bound.state new.disk).failures
  -- and it fails only if its fault is answered
  pub counts : bound.honest old.disk
      → IsErrOf result fault.Device ⊎ HasNotFailed (bound.state old.disk) (bound.state new.disk)
  pub keeps : KeepsDisk bound old.disk new.disk
