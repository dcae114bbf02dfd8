-- What a run's files give (docs/reference/console.md, "The program").
use Rattle.std.specs.Prelude.{◌≡◌, ℕ, IfOk, List, Result, Ok, Err}
use Rattle.pos_file.specs.declared.block_file.BlockFile.{Ghosts as FileGhosts}
use Rattle.pos_file.specs.declared.file_disk.FileDisk.{FileDisk}
use Rattle.pos_mirror.specs.Mirror.{Mirror}
use Rattle.pos_profile.specs.Entries.{Contents}
use Rattle.pos_program.specs.declared.fault.Fault.{Fault}
use Rattle.pos_program.specs.declared.fault.Fault.TheVariants as fault
use Rattle.pos_program.specs.declared.file_fault.FileFault.{FileFault}
use Rattle.pos_program.specs.declared.named_files.NamedFiles.{Ghosts}
use Rattle.pos_program.specs.declared.profile_fault.ProfileFileFault.{ProfileFileFault}

-- if totals were opened, their file was closed as it was
abbrev pub ClosesOpened : {B : Type 0} → FileGhosts B → Result (Mirror (FileDisk B)) FileFault → Type 0
ClosesOpened below opened = IfOk opened (λ totals. below.closed totals.below.file)

-- what both files gave; or the first fault with the path of its file, the profile's where both are at fault, and then
-- the disk's file was closed
abbrev pub FirstFault : {P B : Type 0} → FileGhosts B → List ℕ → Result P ProfileFileFault → List ℕ
    → Result (Mirror (FileDisk B)) FileFault → Result (P × Mirror (FileDisk B)) Fault → Type 0
FirstFault below profile_path profile disk_path disk (Ok both) = (profile ≡ Ok both.0) × (disk ≡ Ok both.1)
FirstFault below profile_path profile disk_path disk (Err (fault.Profile path cause)) =
    (path.now ≡ profile_path) × (profile ≡ Err cause) × ClosesOpened below disk
FirstFault {P} below profile_path profile disk_path disk (Err (fault.Disk path cause)) =
    (path.now ≡ disk_path) × (disk ≡ Err cause) × ((p : P) × (profile ≡ Ok p))
FirstFault below profile_path profile disk_path disk (Err other) = ⊥

-- What a run's two files give: what each of them answered, and what is made of both answers.
pub record OpensRun {F B : Type 0} (files : Ghosts F B) (below : FileGhosts B) (them : F)
    (profile_path disk_path : List ℕ) (result : Result (Contents × Mirror (FileDisk B)) Fault) : Type 0 where
  pub profile : Result Contents ProfileFileFault
  pub disk : Result (Mirror (FileDisk B)) FileFault
  pub profile_read : files.gives_profile them profile_path profile
  pub disk_opened : files.gives_disk them disk_path disk
  pub first : FirstFault below profile_path profile disk_path disk result
