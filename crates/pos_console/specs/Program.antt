-- What the program does for its words, and how it ends (docs/reference/console.md, "The program").
use Rattle.std.specs.Prelude.{◌≡◌, ◌++◌, ℕ, List, Result, Ok, Err, Vec, map}
use Rattle.pos_streams.specs.Streams.{Appends, Fails}
use Rattle.pos_disk.specs.declared.device.Disk.{Ghosts as DiskGhosts}
use Rattle.pos_file.specs.declared.block_file.BlockFile.{Ghosts as FileGhosts}
use Rattle.pos_file.specs.declared.file_disk.FileDisk.{FileDisk}
use Rattle.pos_mirror.specs.Mirror.{Mirror}
use Rattle.pos_profile.specs.Entries.{Contents}
use Rattle.pos_program.specs.Choices.{Chooses}
use Rattle.pos_program.specs.Faults.{status_of}
use Rattle.pos_program.specs.Formats.{FormatsFile}
use Rattle.pos_program.specs.Migrations.{MigratesFile}
use Rattle.pos_program.specs.Openings.{OpensRun}
use Rattle.pos_program.specs.TotalsDisks.{AreRead}
use Rattle.pos_program.specs.declared.choice_fault.ChoiceFault.{ChoiceFault}
use Rattle.pos_program.specs.declared.fault.Fault.{Fault}
use Rattle.pos_program.specs.declared.fault.Fault.TheVariants as fault
use Rattle.pos_program.specs.declared.file_fault.FileFault.{FileFault}
use Rattle.pos_program.specs.declared.named_files.NamedFiles.{Ghosts}
use Rattle.pos_program.specs.declared.words.Task.{Task}
use Rattle.pos_program.specs.declared.words.Task.TheVariants.{Demo, Run, Format, Migrate, Files}
use Rattle.pos_run.specs.declared.scripts.RunFault.{RunFault}
use Rattle.pos_run.specs.declared.scripts.RunFault.TheVariants as run
use Rattle.pos_run.specs.Streams.{AreUntouched, IsFlushed, Streams, Writing}
use Rattle.pos_console.specs.Service.{Serves}
use Rattle.pos_console.specs.Surveys.{IsBroken, IsTold}
use Rattle.pos_console.specs.TotalsRuns.{TotalsLeave}
use Rattle.pos_console.specs.declared.file_closer.FileCloser.{Ghosts as CloserGhosts}

-- what the end of a run is to the program
abbrev pub fault_of_run : Result (Unit {0}) RunFault → Result (Unit {0}) Fault
fault_of_run (Ok u) = Ok tt
fault_of_run (Err run.Read) = Err fault.Read
fault_of_run (Err run.Write) = Err fault.Write
fault_of_run (Err run.NoMemory) = Err fault.NoMemory

-- a run whose end is this to the program
abbrev pub EndsRun : (Result (Unit {0}) RunFault → Type 0) → Result (Unit {0}) Fault → Type 0
EndsRun Serving result = (outcome : Result (Unit {0}) RunFault) × Serving outcome × (result ≡ fault_of_run outcome)

-- what the program does with a script over what a run's two files gave: nothing if one of them is at fault
abbrev pub RunsOpened : {B : Type 0} → FileGhosts B → DiskGhosts (Mirror (FileDisk B))
    → Result (Contents × Mirror (FileDisk B)) Fault → Streams → Result (Unit {0}) Fault → Type 0
RunsOpened below mirrors (Ok opened) streams result =
    EndsRun (TotalsLeave below mirrors opened.0 opened.1 streams) result
RunsOpened below mirrors (Err why) streams result = (result ≡ Err why) × AreUntouched streams

-- what it does with a script over the files at these paths
abbrev pub RunsFiles : {F B : Type 0} → Ghosts F B → FileGhosts B → DiskGhosts (Mirror (FileDisk B)) → F → List ℕ
    → List ℕ → Streams → Result (Unit {0}) Fault → Type 0
RunsFiles {F} {B} files below mirrors them profile disk streams result =
    (opened : Result (Contents × Mirror (FileDisk B)) Fault) × OpensRun files below them profile disk opened
    × RunsOpened below mirrors opened streams result

-- what is answered of the disk in the file at a path, to the program
abbrev pub EndsAtDisk : List ℕ → Result (Unit {0}) FileFault → Result (Unit {0}) Fault → Type 0
EndsAtDisk path (Ok u) result = result ≡ Ok tt
EndsAtDisk path (Err cause) (Err (fault.Disk at why)) = (at.now ≡ path) × (why ≡ cause)
EndsAtDisk path (Err cause) other = ⊥

-- it formats the totals in the file at a path
abbrev pub EndsFormat : {F B : Type 0} → Ghosts F B → FileGhosts B → F → List ℕ → Result (Unit {0}) Fault → Type 0
EndsFormat files below them path result =
    (answer : Result (Unit {0}) FileFault) × FormatsFile files below them path answer
    × EndsAtDisk path answer result

-- it moves the totals in the file at a path to layout 2
abbrev pub EndsMove : {F B : Type 0} → Ghosts F B → FileGhosts B → F → List ℕ → Result (Unit {0}) Fault → Type 0
EndsMove files below them path result =
    (answer : Result (Unit {0}) FileFault) × MigratesFile files below them path answer
    × EndsAtDisk path answer result

-- all of a text was given to the sink, which was flushed
abbrev pub IsWritten : Writing → Writing → List ℕ → Type 0
IsWritten old new text = Appends old.given new.given text × IsFlushed new

-- a front of a text was given, and then a write or a flush failed
abbrev pub IsCutOff : Writing → Writing → List ℕ → Type 0
IsCutOff old new text = (front : List ℕ) × (back : List ℕ) × (text ≡ front ++ back) × Fails old.given new.given front

-- what it tells of the bytes of the totals in the file at a path: their survey's text; or why there is none
abbrev pub TellsBytes : List ℕ → List ℕ → Result (List ℕ) Fault → Type 0
TellsBytes path bytes (Ok text) = IsTold bytes text
TellsBytes path bytes (Err (fault.Disk at cause)) = (at.now ≡ path) × IsBroken bytes cause
TellsBytes path bytes (Err other) = ⊥

-- what it tells of totals that were only read: of the bytes that the one read of their file gave, which was closed
-- while the writer stood like this, and thus before it was given more; or why they can't be read
abbrev pub TellsOpened : {F B : Type 0} → CloserGhosts F → FileGhosts B → F → Writing → List ℕ
    → Result (Mirror (FileDisk B)) FileFault → Result (List ℕ) Fault → Type 0
TellsOpened closer below them writer path (Ok totals) told =
    AreRead below.calls totals × below.closed totals.below.file
    × closer.closes them (below.calls totals.below.file) writer
    × TellsBytes path totals.memory.present.reading told
TellsOpened closer below them writer path (Err cause) (Err (fault.Disk at why)) = (at.now ≡ path) × (why ≡ cause)
TellsOpened closer below them writer path (Err cause) other = ⊥

-- what it tells of the totals file at a path
abbrev pub TellsFile : {F B : Type 0} → Ghosts F B → CloserGhosts F → FileGhosts B → F → Writing → List ℕ
    → Result (List ℕ) Fault → Type 0
TellsFile {F} {B} files closer below them writer path told =
    (opened : Result (Mirror (FileDisk B)) FileFault) × files.reads_disk them path opened
    × TellsOpened closer below them writer path opened told

-- A text is printed, by how its writer stood before, and after, as far as it can be written. Where there is none,
-- nothing is written.
abbrev pub PrintsTold : Result (List ℕ) Fault → Writing → Writing → Result (Unit {0}) Fault → Type 0
PrintsTold (Ok text) old new (Ok u) = IsWritten old new text
PrintsTold (Ok text) old new (Err why) = (why ≡ fault.Write) × IsCutOff old new text
PrintsTold (Err why) old new result = (result ≡ Err why) × (new ≡ old)

-- it tells what the totals file at a path holds, which is closed before, and prints that
abbrev pub PrintsFile : {F B : Type 0} → Ghosts F B → CloserGhosts F → FileGhosts B → F → List ℕ → Writing → Writing
    → Result (Unit {0}) Fault → Type 0
PrintsFile files closer below them path old new result =
    (told : Result (List ℕ) Fault) × TellsFile files closer below them old path told
    × PrintsTold told old new result

-- what it does for a task, over these files: by how its reader and its writer stood before, and after
abbrev pub Does : {F B : Type 0} → Ghosts F B → CloserGhosts F → FileGhosts B → DiskGhosts (Mirror (FileDisk B)) → F
    → Task → Streams → Result (Unit {0}) Fault → Type 0
Does files closer below mirrors them Demo streams result = EndsRun (Serves streams) result
Does files closer below mirrors them (Run profile disk) streams result =
    RunsFiles files below mirrors them profile.now disk.now streams result
Does files closer below mirrors them (Format disk) streams result =
    EndsFormat files below them disk.now result × AreUntouched streams
Does files closer below mirrors them (Migrate disk) streams result =
    EndsMove files below them disk.now result × AreUntouched streams
Does files closer below mirrors them (Files disk) streams result =
    PrintsFile files closer below them disk.now streams.writer streams.writer_after result
    × (streams.reader_after ≡ streams.reader)

-- what it does for what the words ask for: nothing where they ask for nothing
abbrev pub DoesChosen : {F B : Type 0} → Ghosts F B → CloserGhosts F → FileGhosts B
    → DiskGhosts (Mirror (FileDisk B)) → F → Result Task ChoiceFault → Streams → Result (Unit {0}) Fault → Type 0
DoesChosen files closer below mirrors them (Ok task) streams result =
    Does files closer below mirrors them task streams result
DoesChosen files closer below mirrors them (Err why) streams result =
    (result ≡ Err (fault.Words why)) × AreUntouched streams

-- what it does for words
abbrev pub DoesAsAsked : {F B : Type 0} → Ghosts F B → CloserGhosts F → FileGhosts B
    → DiskGhosts (Mirror (FileDisk B)) → F → List (List ℕ) → Streams → Result (Unit {0}) Fault → Type 0
DoesAsAsked files closer below mirrors them words streams result =
    (chosen : Result Task ChoiceFault) × Chooses words chosen
    × DoesChosen files closer below mirrors them chosen streams result

-- what it does for words that were read, or not
abbrev pub DoesAsRead : {F B S A : Type 0} → Ghosts F B → CloserGhosts F → FileGhosts B
    → DiskGhosts (Mirror (FileDisk B)) → F → (S → List ℕ) → Result (Vec S A) ChoiceFault → Streams
    → Result (Unit {0}) Fault → Type 0
DoesAsRead files closer below mirrors them text (Ok words) streams result =
    DoesAsAsked files closer below mirrors them (map text words.items) streams result
DoesAsRead files closer below mirrors them text (Err why) streams result =
    (result ≡ Err (fault.Words why)) × AreUntouched streams

-- The whole program, by its words, its files, how its reader and its writer stood before and after, and the status
-- that it ends with.
pub record RunsProgram {F B S A : Type 0} (files : Ghosts F B) (closer : CloserGhosts F) (below : FileGhosts B)
    (mirrors : DiskGhosts (Mirror (FileDisk B))) (them : F) (text : S → List ℕ)
    (words : Result (Vec S A) ChoiceFault) (streams : Streams) (status : ℕ) : Type 0 where
  pub outcome : Result (Unit {0}) Fault
  pub done : DoesAsRead files closer below mirrors them text words streams outcome
  pub ends : status ≡ status_of outcome
