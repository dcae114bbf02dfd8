-- What the program ends with (docs/reference/console.md, "The program").
use Rattle.std.specs.Prelude.{◌≡◌, ◌≢◌, ℕ, Result, Ok, Err}
use Rattle.std.specs.IoError.{error_kind}
use Rattle.std.specs.declared.io.Error.{Error}
use Rattle.std.specs.declared.io.ErrorKind.TheVariants.{OutOfMemory}
use Rattle.pos_program.specs.declared.choice_fault.ChoiceFault.{ChoiceFault}
use Rattle.pos_program.specs.declared.choice_fault.ChoiceFault.TheVariants as choice
use Rattle.pos_program.specs.declared.fault.Fault.{Fault}
use Rattle.pos_program.specs.declared.fault.Fault.TheVariants as fault
use Rattle.pos_program.specs.declared.profile_fault.ProfileFileFault.{ProfileFileFault}
use Rattle.pos_program.specs.declared.profile_fault.ProfileFileFault.TheVariants as profile
use Rattle.pos_program.specs.declared.file_fault.FileFault.{FileFault}
use Rattle.pos_program.specs.declared.file_fault.FileFault.TheVariants as file

-- the status where the words ask for nothing
abbrev pub choice_status : ChoiceFault → ℕ
choice_status choice.NoMemory = 6
choice_status other = 2

-- the status of a profile's fault: want of memory has its own
abbrev pub profile_status : ProfileFileFault → ℕ
profile_status profile.NoMemory = 6
profile_status other = 3

-- the status of a fault of the disk's file
abbrev pub disk_status : FileFault → ℕ
disk_status file.NoMemory = 6
disk_status file.NoMemoryToMove = 6
disk_status other = 4

-- the status of a fault
abbrev pub status : Fault → ℕ
status (fault.Words why) = choice_status why
status (fault.Profile path cause) = profile_status cause
status (fault.Disk path cause) = disk_status cause
status fault.Read = 5
status fault.Write = 5
status fault.NoMemory = 6

-- the status that the program ends with
abbrev pub status_of : {U : Type 0} → Result U Fault → ℕ
status_of (Ok done) = 0
status_of (Err why) = status why

-- why a file can't be opened as a disk: want of memory, or what the system says
abbrev pub ReportsOpen : Error → FileFault → Type 0
ReportsOpen cause file.NoMemory = error_kind cause ≡ OutOfMemory
ReportsOpen cause (file.Open told) = (told ≡ cause) × (error_kind cause ≢ OutOfMemory)
ReportsOpen cause other = ⊥

-- why a file can't be read: want of memory, or what the system says
abbrev pub ReportsUnreadable : Error → FileFault → Type 0
ReportsUnreadable cause file.NoMemory = error_kind cause ≡ OutOfMemory
ReportsUnreadable cause (file.Unreadable told) = (told ≡ cause) × (error_kind cause ≢ OutOfMemory)
ReportsUnreadable cause other = ⊥
