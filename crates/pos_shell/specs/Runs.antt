-- What running the scripts in files comes to (docs/reference/tool.md, "run").
use Rattle.std.specs.Prelude.{◌≡◌, ◌⊎◌, ◌++◌, ◌∷◌, [], ℕ, List, Option, Some, None, Result, Ok, Err, Vec, bytes_eq}
use Rattle.std.specs.Prelude.{codes}
use Rattle.std.specs.Bool.{MatchBool}
use Rattle.std.specs.Borrow.{Bor}
use Rattle.pos_counter.specs.Counters.{IsLeftDuring}
use Rattle.pos_counter.specs.Machine.{Machine}
use Rattle.pos_counter.specs.Steps.{Request, Response, Run}
use Rattle.pos_disk.specs.Memory.{Memory}
use Rattle.pos_disk.specs.declared.device.Disk.{Ghosts as DiskGhosts}
use Rattle.pos_file.specs.declared.block_file.BlockFile.{Ghosts as FileGhosts}
use Rattle.pos_file.specs.declared.file_disk.FileDisk.{FileDisk}
use Rattle.pos_image.specs.Standing.{HasNoFiles}
use Rattle.pos_mirror.specs.Mirror.{Mirror, mirror_state}
use Rattle.pos_profile.specs.Built.{built}
use Rattle.pos_profile.specs.Entries.{Contents}
use Rattle.pos_program.specs.MirroredFiles.{CutMayLeave, IsMirrored}
use Rattle.pos_program.specs.declared.file_fault.FileFault.{FileFault}
use Rattle.pos_program.specs.declared.file_system.FileSystem.{Ghosts as SystemGhosts}
use Rattle.pos_program.specs.declared.named_files.NamedFiles.{Ghosts}
use Rattle.pos_run.specs.Simulations.{begun_over}
use Rattle.pos_store.specs.Standing.{LeavesOneOf, Standing}
use Rattle.pos_streams.specs.Streams.{Taken}
use Rattle.pos_shell.specs.Input.{TakesRest}
use Rattle.pos_shell.specs.Outputs.{Streams}
use Rattle.pos_shell.specs.ProfileRun.{Lines, RunsLines, steps_of}
use Rattle.pos_shell.specs.declared.runs.RunFault.{RunFault}
use Rattle.pos_shell.specs.declared.runs.RunFault.TheVariants as run
use Rattle.pos_shell.specs.declared.scripts.Script.{Script}
use Rattle.pos_shell.specs.declared.scripts.ScriptsFault.{ScriptsFault}
use Rattle.pos_shell.specs.declared.scripts.ScriptsFault.TheVariants.{NoMemory}
use Rattle.pos_shell.specs.declared.answer_texts.AnswerStyle.{AnswerStyle}

-- there was no memory to begin
abbrev pub without_memory : RunFault
without_memory = run.Stopped NoMemory

-- scripts that were read, as a list
abbrev pub scripts_of : {A : Type 0} → Result (Vec Script A) RunFault → Result (List Script) RunFault
scripts_of (Ok scripts) = Ok scripts.items
scripts_of (Err why) = Err why

-- what reading the file at a path comes to
abbrev pub ReadsFileAt : {S F : Type 0} → SystemGhosts S F → S → Bor (List ℕ) → Result (List ℕ) RunFault → Type 0
ReadsFileAt system them path (Ok text) = system.reads them path.now (Ok text)
ReadsFileAt system them path (Err (run.Script at cause)) = (at ≡ path) × system.reads them path.now (Err cause)
ReadsFileAt system them path (Err other) = ⊥

-- What reading the script at a path comes to, by what was taken from the input before and after it. `-` is all that the
-- input has left.
abbrev pub ReadsPath : {S F : Type 0} → SystemGhosts S F → S → Bor (List ℕ) → Taken → Taken → Result (List ℕ) RunFault
    → Type 0
ReadsPath system them path old new result = MatchBool (bytes_eq path.now (codes "-")) (TakesRest old new result)
    ((new ≡ old) × ReadsFileAt system them path result)

-- each script has the name of its path and the text that was read there
abbrev pub AreRead : {S F : Type 0} → SystemGhosts S F → S → List (Bor (List ℕ)) → List Script → Taken → Taken → Type 0
AreRead system them [] [] old new = new ≡ old
AreRead system them (path ∷ paths) (script ∷ scripts) old new = (script.name ≡ path) × (between : Taken)
    × ReadsPath system them path old between (Ok script.text.items) × AreRead system them paths scripts between new
AreRead system them paths scripts old new = ⊥

-- Those at the first paths were read, and the next one couldn't be; or there was no memory for them.
abbrev pub IsUnread : {S F : Type 0} → SystemGhosts S F → S → List (Bor (List ℕ)) → RunFault → Taken → Taken → Type 0
IsUnread system them paths why old new = (earlier : List (Bor (List ℕ))) × (later : List (Bor (List ℕ)))
    × (scripts : List Script) × (((path : Bor (List ℕ)) × (between : Taken) × (paths ≡ earlier ++ path ∷ later)
    × AreRead system them earlier scripts old between × ReadsPath system them path between new (Err why))
    ⊎ ((paths ≡ earlier ++ later) × AreRead system them earlier scripts old new × (why ≡ without_memory)))

-- what reading the scripts at paths comes to
abbrev pub ReadsEach : {S F : Type 0} → SystemGhosts S F → S → List (Bor (List ℕ)) → Taken → Taken
    → Result (List Script) RunFault → Type 0
ReadsEach system them paths old new (Ok scripts) = AreRead system them paths scripts old new
ReadsEach system them paths old new (Err why) = IsUnread system them paths why old new

-- what reading a profile comes to: the built-in one where no path is given
abbrev pub GivesProfile : {F B : Type 0} → Ghosts F B → F → Option (Bor (List ℕ)) → Result Contents RunFault → Type 0
GivesProfile files them None (Ok profile) = profile ≡ built
GivesProfile files them None (Err why) = why ≡ without_memory
GivesProfile files them (Some path) (Ok profile) = files.gives_profile them path.now (Ok profile)
GivesProfile files them (Some path) (Err (run.Profile at cause)) =
    (at ≡ path) × files.gives_profile them path.now (Err cause)
GivesProfile files them (Some path) (Err other) = ⊥

-- what a run that began ended with
abbrev pub ended : Result (Unit {0}) ScriptsFault → Result (Unit {0}) RunFault
ended (Ok u) = Ok tt
ended (Err why) = Err (run.Stopped why)

-- a run of lines over totals in memory, on a disk without files
pub record RunsFresh (bound : DiskGhosts Memory) (style : AnswerStyle) (contents : Contents) (lines : Lines)
    (old new : Streams) (result : Result (Unit {0}) RunFault) : Type 0 where
  pub disk : Memory
  pub after : Memory
  pub answer : Result (Unit {0}) ScriptsFault
  pub empty : HasNoFiles (bound.state disk)
  pub runs : RunsLines bound style contents lines disk old new answer after
  pub ends : result ≡ ended answer

-- likewise, or there was no memory for the disk
abbrev pub RunsInMemory : DiskGhosts Memory → AnswerStyle → Contents → Lines → Streams → Streams
    → Result (Unit {0}) RunFault → Type 0
RunsInMemory bound style contents lines old new result =
    ((result ≡ Err without_memory) × (new ≡ old)) ⊎ RunsFresh bound style contents lines old new result

-- A run of the machine by these steps, from where it begins for a profile over totals that may be these. A power cut at
-- any moment since the file was read leaves, of a file that keeps the crash model, what the machine may leave before,
-- in or after one of its steps.
pub record LeavesCuts {B : Type 0} (below : FileGhosts B) (contents : Contents) (left : List Standing)
    (totals after : Mirror (FileDisk B)) (steps : List (Request × Response)) : Type 0 where
  pub end : Machine
  pub run : Run (begun_over contents left (mirror_state totals)) steps end
  pub cut : (is : IsMirrored below.calls after) (bytes : List ℕ) → CutMayLeave is bytes
      → IsLeftDuring (begun_over contents left (mirror_state totals)) steps end run bytes

-- A run of lines over the totals in a file. The calls of the file make the totals that are left, and for all that the
-- file may have held, a power cut leaves what it says.
pub record RunsOverTotals {B : Type 0} (below : FileGhosts B) (mirrors : DiskGhosts (Mirror (FileDisk B)))
    (style : AnswerStyle) (contents : Contents) (lines : Lines) (totals : Mirror (FileDisk B)) (old new : Streams)
    (result : Result (Unit {0}) RunFault) : Type 0 where
  pub after : Mirror (FileDisk B)
  pub answer : Result (Unit {0}) ScriptsFault
  pub runs : RunsLines mirrors style contents lines totals old new answer after
  pub file : IsMirrored below.calls after
  pub cuts : (left : List Standing) → LeavesOneOf left (mirror_state totals)
      → LeavesCuts below contents left totals after (steps_of runs)
  -- and then the file was closed
  pub closed : below.closed after.below.file
  pub ends : result ≡ ended answer

-- what running lines over what opening a totals file gave comes to
abbrev pub RunsOpened : {B : Type 0} → FileGhosts B → DiskGhosts (Mirror (FileDisk B)) → AnswerStyle → Contents
    → Lines → Bor (List ℕ) → Result (Mirror (FileDisk B)) FileFault → Streams → Streams
    → Result (Unit {0}) RunFault → Type 0
RunsOpened below mirrors style contents lines path (Ok totals) old new result =
    RunsOverTotals below mirrors style contents lines totals old new result
RunsOpened below mirrors style contents lines path (Err cause) old new result =
    (result ≡ Err (run.Totals path cause)) × (new ≡ old)

-- what running lines over the totals in the file at a path comes to, or in memory
abbrev pub RunsOver : {F B : Type 0} → Ghosts F B → FileGhosts B → DiskGhosts (Mirror (FileDisk B)) → DiskGhosts Memory
    → F → AnswerStyle → Contents → Lines → Option (Bor (List ℕ)) → Streams → Streams → Result (Unit {0}) RunFault
    → Type 0
RunsOver files below mirrors memories them style contents lines None old new result =
    RunsInMemory memories style contents lines old new result
RunsOver {B = B} files below mirrors memories them style contents lines (Some path) old new result =
    (opened : Result (Mirror (FileDisk B)) FileFault) × files.gives_disk them path.now opened
    × RunsOpened below mirrors style contents lines path opened old new result

-- what becomes of lines, by what reading the profile gave
abbrev pub RunsProfiled : (Contents → Type 0) → Result Contents RunFault → Streams → Streams
    → Result (Unit {0}) RunFault → Type 0
RunsProfiled RunsOf (Ok contents) old new result = RunsOf contents
RunsProfiled RunsOf (Err why) old new result = (result ≡ Err why) × (new ≡ old)

-- What running lines comes to, over the profile at a path, or the built-in one, and totals.
abbrev pub RunsAll : {F B : Type 0} → Ghosts F B → FileGhosts B → DiskGhosts (Mirror (FileDisk B))
    → DiskGhosts Memory → F → AnswerStyle → Lines → Option (Bor (List ℕ)) → Option (Bor (List ℕ)) → Streams → Streams
    → Result (Unit {0}) RunFault → Type 0
RunsAll files below mirrors memories them style lines profile totals old new result =
    (given : Result Contents RunFault) × GivesProfile files them profile given
    × RunsProfiled (λ contents. RunsOver files below mirrors memories them style contents lines totals old new result)
    given old new result

-- what becomes of scripts, by what reading them gave
abbrev pub RunsRead : (List Script → Type 0) → Result (List Script) RunFault → Streams → Streams
    → Result (Unit {0}) RunFault → Type 0
RunsRead RunsOf (Ok scripts) old new result = RunsOf scripts
RunsRead RunsOf (Err why) old new result = (result ≡ Err why) × (new ≡ old)

-- What running the scripts at paths comes to, over a profile and totals.
abbrev pub Runs : {F B S G : Type 0} → Ghosts F B → FileGhosts B → DiskGhosts (Mirror (FileDisk B))
    → DiskGhosts Memory → F → SystemGhosts S G → S → AnswerStyle → List (Bor (List ℕ)) → Option (Bor (List ℕ))
    → Option (Bor (List ℕ)) → Streams → Streams → Result (Unit {0}) RunFault → Type 0
Runs files below mirrors memories them system it style paths profile totals old new result =
    (read : Result (List Script) RunFault) × (taken : Taken) × ReadsEach system it paths old.taken taken read
    × RunsRead (λ scripts. RunsAll files below mirrors memories them style (Some scripts) profile totals
    (record old { taken = taken }) new result) read (record old { taken = taken }) new result
