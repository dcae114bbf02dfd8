-- Why a totals file isn't locked (docs/reference/console.md, "The program").
use Rattle.std.specs.Prelude.{◌≡◌, ◌≢◌}
use Rattle.std.specs.IoError.{error_kind}
use Rattle.std.specs.declared.io.Error.{Error}
use Rattle.std.specs.declared.io.ErrorKind.TheVariants.{OutOfMemory}
use Rattle.pos_program.specs.declared.file_fault.FileFault.{FileFault}
use Rattle.pos_program.specs.declared.file_fault.FileFault.TheVariants as file

-- why a file isn't locked: want of memory, or what the system says
abbrev pub ReportsUnlocked : Error → FileFault → Type 0
ReportsUnlocked cause file.NoMemory = error_kind cause ≡ OutOfMemory
ReportsUnlocked cause (file.Lock told) = (told ≡ cause) × (error_kind cause ≢ OutOfMemory)
ReportsUnlocked cause other = ⊥
