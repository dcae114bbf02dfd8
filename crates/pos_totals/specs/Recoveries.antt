-- What a recovery of the totals answers, and what a crash during it may leave.
use Rattle.std.specs.Prelude.{Err, IsErrOf, List, None, Ok, Option, Result, Some, [], length, ℕ, ◌+◌, ◌∷◌, ◌≡◌, ◌≤◌}
use Rattle.std.specs.Prelude.{◌⊎◌}
use Rattle.pos_disk.specs.Keeps.{KeepsDisk}
use Rattle.pos_disk.specs.State.{DiskState, HasNotFailed}
use Rattle.pos_disk.specs.declared.device.Disk.{Ghosts}
use Rattle.pos_dir.specs.declared.file.File.{File as PlainFile}
use Rattle.pos_image.specs.declared.layout.Layout.{Layout}
use Rattle.pos_service.specs.declared.code.Code.{Code}
use Rattle.pos_service.specs.declared.code.Code.TheVariants as code
use Rattle.pos_totals.specs.HardTotals.{File, Ready, Totals, last_number}
use Rattle.pos_store.specs.Standing.{Damaged, IsOneOf, LeavesOneOf, Passes, Standing, Stands, StandsFor, Unformatted}
use Rattle.pos_store.specs.declared.fault.StoreFault.{StoreFault}
use Rattle.pos_store.specs.declared.fault.StoreFault.TheVariants as store
use Rattle.pos_totals.specs.Changes.{HasFailed, settled}
use Rattle.pos_totals.specs.Tables.{new_tag}
use Rattle.pos_totals.specs.Views.{LeavesTheirFiles, TotalsView, WhenOff, WhenReady, called}
use Rattle.pos_totals.specs.declared.fault.RecoveryFault.{RecoveryFault}
use Rattle.pos_totals.specs.declared.fault.RecoveryFault.TheVariants as fault

-- files with handles from a number on, in their order; nobody has claimed one
abbrev pub numbered : ℕ → List PlainFile → List File
numbered next [] = []
numbered next (file ∷ files) = called (new_tag next) file ∷ numbered (next + 1) files

-- there are so many handles from a number on, the last of which is below the last number
abbrev pub AreLeft : ℕ → ℕ → Type 0
AreLeft next count = next + count ≤ last_number

-- The layout is the one that was found, and the place after the records is some number: over an honest disk
-- `ends_behind_their_records` says which. The files that were found have the handles from the next one on, and the next
-- one is after them.
pub record HasFound (P : Standing → Type 0) (old new : Totals) : Type 0 where
  pub layout : Layout
  pub files : List PlainFile
  pub sequence : ℕ
  pub tail : ℕ
  pub found : P (Stands layout files sequence)
  pub handles : AreLeft old.next (length files)
  pub totals : new ≡ record old {
    layout = layout;
    mode = Ready (numbered old.next files) sequence;
    tail = tail;
    next = old.next + length files;
  }

-- More files were found than handles are left.
pub record HasTooMany (P : Standing → Type 0) (next : ℕ) : Type 0 where
  pub layout : Layout
  pub files : List PlainFile
  pub sequence : ℕ
  pub found : P (Stands layout files sequence)
  pub handles : ¬ (AreLeft next (length files))

-- what a recovery of totals that are off answers, and the totals after it; P says what is found
abbrev pub FindsFiles : (Standing → Type 0) → Totals → Result (Unit {0}) RecoveryFault → Totals → Type 0
FindsFiles P old (Ok _) new = HasFound P old new
FindsFiles P old (Err fault.Unformatted) new = P Unformatted × (new ≡ old)
FindsFiles P old (Err fault.Damaged) new = P Damaged × (new ≡ old)
FindsFiles P old (Err fault.Handles) new = HasTooMany P old.next × (new ≡ old)
FindsFiles P old (Err fault.NoMemory) new = new ≡ old
FindsFiles P old (Err fault.Device) new = new ≡ old

-- A recovery of a disk that may leave only bytes that stand for one of the candidates finds one of them, and the disk
-- may leave only such bytes until then, and the files that were found from then on.
pub record RecoversOneOf (candidates : List Standing) (old new : DiskState) (before : Totals)
    (result : Result (Unit {0}) RecoveryFault) (after : Totals) : Type 0 where
  pub found : FindsFiles (IsOneOf candidates) before result after
  pub passes : Passes old new candidates (settled after.layout after.mode candidates)

-- the bytes of an honest disk stand for this
abbrev pub ReadsAs : {D : Type 0} → Ghosts D → D → Standing → Type 0
ReadsAs bound disk standing = bound.honest disk → StandsFor standing (bound.state disk).reading

-- for all candidates of which the disk may leave one alone, a recovery finds one of them
abbrev pub RecoversAny : DiskState → DiskState → Totals → Result (Unit {0}) RecoveryFault → Totals → Type 0
RecoversAny old new before result after =
    (candidates : List Standing) → LeavesOneOf candidates old → RecoversOneOf candidates old new before result after

-- What a recovery does. About the disk itself, and about what a crash may leave, it says something only if the disk is
-- honest.
pub record Recovers {D : Type 0} (bound : Ghosts D) (old : TotalsView D) (result : Result (Unit {0}) RecoveryFault)
    (new : TotalsView D) : Type 0 where
  -- if the totals are ready it succeeds and does nothing
  pub ready : WhenReady old.totals.mode ((result ≡ Ok tt) × (new ≡ old))
  -- else it finds what the bytes of the disk stand for
  pub answer : WhenOff old.totals.mode (FindsFiles (ReadsAs bound old.disk) old.totals result new.totals)
  pub one_of : bound.honest old.disk → WhenOff old.totals.mode
      (RecoversAny (bound.state old.disk) (bound.state new.disk) old.totals result new.totals)
  -- whatever it answers, the bytes of the disk are what they were
  pub reading : bound.honest old.disk → (bound.state new.disk).reading ≡ (bound.state old.disk).reading
  -- a crash now leaves exactly the files that were found
  pub now : bound.honest old.disk → LeavesTheirFiles new.totals.layout new.totals.mode (bound.state new.disk)
  pub device : IsErrOf result fault.Device → HasFailed bound old.disk new.disk
  -- and it fails only if its fault is answered
  pub counts : bound.honest old.disk
      → IsErrOf result fault.Device ⊎ HasNotFailed (bound.state old.disk) (bound.state new.disk)
  pub kept : KeepsDisk bound old.disk new.disk

-- the result code of the call that asked for a recovery; want of memory has none
abbrev pub code_of : RecoveryFault → Option Code
code_of fault.Unformatted = Some code.NoHardware
code_of fault.Damaged = Some code.Failure
code_of fault.Handles = Some code.Failure
code_of fault.NoMemory = None
code_of fault.Device = Some code.Failure

-- the totals' fault for a store's fault of a recovery; a recovery has no other
abbrev pub told_as : StoreFault → Option RecoveryFault
told_as store.Off = None
told_as (store.Refused cause) = None
told_as store.Exhausted = None
told_as store.AlreadyLayout2 = None
told_as store.Unformatted = Some fault.Unformatted
told_as store.Damaged = Some fault.Damaged
told_as store.NoMemory = Some fault.NoMemory
told_as store.Device = Some fault.Device
