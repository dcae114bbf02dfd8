-- What formatting a disk answers, and what it leaves (docs/reference/totals-file.md, "Formatting").
use Rattle.std.specs.Prelude.{Err, List, Ok, OnOk, Result, false, true, ℕ, ◌≡◌, ◌⊎◌}
use Rattle.pos_disk.specs.Memory.{state_of}
use Rattle.pos_disk.specs.State.{DiskState, IsAtRest}
use Rattle.pos_file.specs.Calls.{Call}
use Rattle.pos_file.specs.declared.block_file.BlockFile.{Ghosts as FileGhosts}
use Rattle.pos_file.specs.declared.file_disk.FileDisk.{FileDisk}
use Rattle.pos_image.specs.Images.{HasFailed, KeepsMarked}
use Rattle.pos_image.specs.NewDisk.{HasClosedGates, KeepsRest, no_files}
use Rattle.pos_image.specs.Standing.{HasNewImage, is_marked}
use Rattle.pos_image.specs.declared.layout.Layout.TheVariants.{Layout1}
use Rattle.pos_mirror.specs.Mirror.{Mirror, mirror_state}
use Rattle.pos_program.specs.Answers.{AnswersFor}
use Rattle.pos_program.specs.MirroredFiles.{CutMayLeave, IsMirrored}
use Rattle.pos_program.specs.declared.file_fault.FileFault.{FileFault}
use Rattle.pos_program.specs.declared.file_fault.FileFault.TheVariants.{Device, Formatted}
use Rattle.pos_program.specs.declared.named_files.NamedFiles.{Ghosts}

-- There were no totals on the disk. It is at rest, with no files by layout 1, and sequence 1.
pub record IsFormatted (old new : DiskState) : Type 0 where
  pub unmarked : is_marked old.reading ≡ false
  pub at_rest : IsAtRest new
  pub image : HasNewImage Layout1 no_files 1 new.reading
  pub gates : HasClosedGates new.reading

-- A disk that can't be formatted: totals are there, or it failed. One with totals was only looked at, whatever is told.
pub record IsNotFormatted (old new : DiskState) (why : FileFault) : Type 0 where
  pub why_told : (why ≡ Formatted) ⊎ (why ≡ Device)
  pub formatted : why ≡ Formatted → is_marked old.reading ≡ true
  pub device : why ≡ Device → HasFailed old new
  pub kept : KeepsMarked old new

-- the disk that was formatted, or that a refusal hands back
abbrev pub disk_of : {D : Type 0} → Result D (FileFault × D) → D
disk_of (Ok disk) = disk
disk_of (Err (why, disk)) = disk

-- what is answered, by how the disk was and is
abbrev pub AnswersFormat : DiskState → DiskState → Result (Unit {0}) FileFault → Type 0
AnswersFormat old new (Ok u) = IsFormatted old new
AnswersFormat old new (Err why) = IsNotFormatted old new why

-- Totals in a file were formatted, or not. The calls of the file make what is left.
pub record LeavesFormatted {F : Type 0} (calls : F → List Call) (totals after : Mirror (FileDisk F))
    (result : Result (Unit {0}) FileFault) : Type 0 where
  pub file : IsMirrored calls after
  pub answer : AnswersFormat (mirror_state totals) (mirror_state after) result
  -- nothing but the gates and the fields of the first image was written
  pub rest : KeepsRest totals.memory.present.reading after.memory.present.reading
  -- formatted is the disk that the calls of the file make
  pub made : (is : IsMirrored calls after) → OnOk result (IsFormatted (mirror_state totals) (state_of is.asked))
  -- if totals are there, whatever is told, a power cut at any moment since the file was read leaves the bytes that were
  -- read
  pub cut : (is : IsMirrored calls after) (bytes : List ℕ) → CutMayLeave is bytes
      → is_marked totals.memory.present.reading ≡ true → bytes ≡ totals.memory.present.reading

-- formatting totals in a file comes to this, and the file was closed then
abbrev pub FormatsTotals : {F : Type 0} → FileGhosts F → Mirror (FileDisk F) → Result (Unit {0}) FileFault → Type 0
FormatsTotals {F} below totals result = (after : Mirror (FileDisk F))
    × LeavesFormatted below.calls totals after result × below.closed after.below.file

-- formatting the totals in the file at a path: what making them answered, and what became of them
abbrev pub FormatsFile : {F B : Type 0} → Ghosts F B → FileGhosts B → F → List ℕ → Result (Unit {0}) FileFault → Type 0
FormatsFile {F} {B} files below them path result =
    (opened : Result (Mirror (FileDisk B)) FileFault) × files.makes_disk them path opened
    × AnswersFor (FormatsTotals below) opened result
