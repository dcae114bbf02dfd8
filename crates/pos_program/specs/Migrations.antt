-- What moving the totals in a file to layout 2 answers, and what it leaves (docs/reference/totals-file.md, "The move to
-- layout 2").
use Rattle.std.specs.Prelude.{◌≡◌, ◌⊎◌, ℕ, IsErrOf, List, map, Result, Ok, Err, OnOk, ⊤}
use Rattle.pos_disk.specs.Memory.{state_of}
use Rattle.pos_disk.specs.State.{HasNotFailed}
use Rattle.pos_file.specs.Calls.{Call}
use Rattle.pos_file.specs.declared.block_file.BlockFile.{Ghosts as FileGhosts}
use Rattle.pos_file.specs.declared.file_disk.FileDisk.{FileDisk}
use Rattle.pos_mirror.specs.Mirror.{Mirror, mirror_state}
use Rattle.pos_program.specs.Answers.{AnswersFor}
use Rattle.pos_program.specs.MirroredFiles.{CutMayLeave, IsMirrored}
use Rattle.pos_program.specs.declared.file_fault.FileFault.{FileFault}
use Rattle.pos_program.specs.declared.file_fault.FileFault.TheVariants as file
use Rattle.pos_program.specs.declared.named_files.NamedFiles.{Ghosts}
use Rattle.pos_store.specs.Migrations.{KeepsFirstLayout}
use Rattle.pos_store.specs.MovedDisks.{AreMoved, MovesAny, moved}
use Rattle.pos_store.specs.Standing.{Standing, LeavesOneOf, StandsForEither}
use Rattle.pos_store.specs.declared.fault.StoreFault.{StoreFault}
use Rattle.pos_store.specs.declared.fault.StoreFault.TheVariants as fault

-- a store's fault of a move, as a fault of the disk's file; a move has no other
abbrev pub told_as : StoreFault → FileFault
told_as fault.Unformatted = file.Unformatted
told_as fault.Damaged = file.Damaged
told_as fault.AlreadyLayout2 = file.Moved
told_as fault.NoMemory = file.NoMemoryToMove
told_as other = file.Move

-- what is answered where the disk in a file was moved, or why it wasn't
abbrev pub told_of : Result (Unit {0}) StoreFault → Result (Unit {0}) FileFault
told_of (Ok u) = Ok tt
told_of (Err why) = Err (told_as why)

-- a move that was refused, for another cause than a failure of the file
abbrev pub IsRefusedMove : Result (Unit {0}) StoreFault → Type 0
IsRefusedMove (Ok u) = ⊥
IsRefusedMove (Err fault.Device) = ⊥
IsRefusedMove (Err other) = ⊤

-- Totals in a file were moved, or not, whatever candidates the bytes that were read stand for. The calls of the file
-- make what is left.
pub record LeavesMoved {F : Type 0} (calls : F → List Call) (totals after : Mirror (FileDisk F))
    (outcome : Result (Unit {0}) StoreFault) : Type 0 where
  pub file : IsMirrored calls after
  pub moves : MovesAny (mirror_state totals) (mirror_state after) outcome
  -- whatever is told, no slot of layout 1 was written, and none closed
  pub rest : KeepsFirstLayout totals.memory.present.reading after.memory.present.reading
  -- the file failed only where that is told
  pub counts : IsErrOf outcome fault.Device ⊎ HasNotFailed (mirror_state totals) (mirror_state after)
  -- moved is the disk that the calls of the file make
  pub made : (candidates : List Standing) → LeavesOneOf candidates (mirror_state totals) → (is : IsMirrored calls after)
      → OnOk outcome (AreMoved candidates (state_of is.asked))
  -- a power cut at any moment since the file was read leaves one of the candidates, or one with its files moved
  pub cut : (candidates : List Standing) → LeavesOneOf candidates (mirror_state totals) → (is : IsMirrored calls after)
      → (bytes : List ℕ) → CutMayLeave is bytes → StandsForEither candidates (map moved candidates) bytes
  -- where the move was refused, it leaves the bytes that were read
  pub kept : (candidates : List Standing) → LeavesOneOf candidates (mirror_state totals) → IsRefusedMove outcome
      → (is : IsMirrored calls after) (bytes : List ℕ) → CutMayLeave is bytes → bytes ≡ totals.memory.present.reading

-- moving totals in a file comes to this, and the file was closed then
abbrev pub MigratesTotals : {F : Type 0} → FileGhosts F → Mirror (FileDisk F) → Result (Unit {0}) FileFault → Type 0
MigratesTotals {F} below totals result =
    (after : Mirror (FileDisk F)) × (outcome : Result (Unit {0}) StoreFault)
    × LeavesMoved below.calls totals after outcome × below.closed after.below.file × (result ≡ told_of outcome)

-- moving the totals in the file at a path: what opening them answered, and what became of them
abbrev pub MigratesFile : {F B : Type 0} → Ghosts F B → FileGhosts B → F → List ℕ → Result (Unit {0}) FileFault → Type 0
MigratesFile {F} {B} files below them path result =
    (opened : Result (Mirror (FileDisk B)) FileFault) × files.gives_disk them path opened
    × AnswersFor (MigratesTotals below) opened result
