-- What trying scripts comes to (docs/reference/tool.md, "test").
use Rattle.std.specs.Prelude.{◌≡◌, ◌-◌, ◌++◌, ◌∷◌, [], ℕ, Bool, not, List, Result, Ok, Err, Vec, codes, decimal, filter}
use Rattle.std.specs.Prelude.{flat_map, if◌then◌else◌, length, string_bytes, ⊤}
use Rattle.pos_counter.specs.Counters.{IsRun}
use Rattle.pos_counter.specs.Steps.{Request, Response}
use Rattle.pos_counter.specs.declared.counter.Counter.{Counter}
use Rattle.pos_disk.specs.Memory.{Memory}
use Rattle.pos_disk.specs.declared.device.Disk.{Ghosts as DiskGhosts}
use Rattle.pos_image.specs.Standing.{HasNoFiles}
use Rattle.pos_profile.specs.Entries.{Contents}
use Rattle.pos_program.specs.declared.file_system.FileSystem.{Ghosts as SystemGhosts}
use Rattle.pos_run.specs.Simulations.{AreMounted, IsSimulatedCounter, as_it_is, wrapped_devices}
use Rattle.pos_run.specs.Spares.{spares_in}
use Rattle.pos_run.specs.Transcript.{LinesPrint, Session, begun_session}
use Rattle.pos_run.specs.declared.spares.Spares.{Spares}
use Rattle.pos_run.specs.declared.wrapped.Wrapped.{Wrapped}
use Rattle.pos_script.specs.Lines.{is_nothing, lines_of}
use Rattle.pos_shell.specs.Differences.{differences}
use Rattle.pos_shell.specs.declared.trials.Trial.{Trial}
use Rattle.pos_shell.specs.declared.trials.TrialFault.{TrialFault}
use Rattle.pos_shell.specs.declared.trials.TrialFault.TheVariants as fault

-- A script's lines are answered this by a new counter of a profile, over totals in memory without files. The devices
-- and the spares are in the wrappers that the profile's keys ask for.
pub record IsAnswered (bound : DiskGhosts Memory) (contents : Contents) (script answers : List ℕ) : Type 0 where
  pub disk : Memory
  pub empty : HasNoFiles (bound.state disk)
  pub counter : Counter Memory Wrapped
  pub spares : Spares Wrapped
  pub simulated : IsSimulatedCounter wrapped_devices contents disk counter spares
  pub mounted : AreMounted as_it_is contents counter spares
  pub steps : List (Request × Response)
  pub left : Session
  pub end : Counter Memory Wrapped
  pub run : IsRun bound wrapped_devices counter steps end
  pub prints : LinesPrint (begun_session (spares_in wrapped_devices spares)) (lines_of script) steps answers left

-- how what a script prints differs from what is wanted
abbrev pub Compares : DiskGhosts Memory → Contents → List ℕ → List ℕ → List ℕ → List ℕ → Type 0
Compares bound contents name script wanted text = (answers : List ℕ) × IsAnswered bound contents script answers
    × (text ≡ differences name 1 (lines_of script) (lines_of wanted) (lines_of answers))

-- the script at a path, or why it can't be read
abbrev pub ReadsText : {S F : Type 0} → SystemGhosts S F → S → List ℕ → Result (List ℕ) TrialFault → Type 0
ReadsText system them path (Ok script) = system.reads them path (Ok script)
ReadsText system them path (Err (fault.Script at cause)) =
    (string_bytes at ≡ path) × system.reads them path (Err cause)
ReadsText system them path (Err other) = other ≡ fault.NoMemory

-- the answers that are wanted of the script at a path, or why they can't be read
abbrev pub ReadsWanted : {S F : Type 0} → SystemGhosts S F → S → List ℕ → Result (List ℕ) TrialFault → Type 0
ReadsWanted system them path (Ok wanted) = system.reads them (path ++ codes ".stdout") (Ok wanted)
ReadsWanted system them path (Err (fault.Wanted at cause)) =
    (string_bytes at ≡ path) × system.reads them (path ++ codes ".stdout") (Err cause)
ReadsWanted system them path (Err other) = other ≡ fault.NoMemory

-- What trying the script at a path comes to: how its answers differ from those that are wanted.
abbrev pub TriesScript : {S F : Type 0} → SystemGhosts S F → S → DiskGhosts Memory → Contents → List ℕ
    → Result (List ℕ) TrialFault → Type 0
TriesScript system them bound contents path (Ok text) =
    (script : List ℕ) × (wanted : List ℕ) × ReadsText system them path (Ok script)
    × ReadsWanted system them path (Ok wanted) × Compares bound contents path script wanted text
TriesScript system them bound contents path (Err (fault.Script at cause)) =
    ReadsText system them path (Err (fault.Script at cause))
TriesScript system them bound contents path (Err (fault.Wanted at cause)) =
    ReadsWanted system them path (Err (fault.Wanted at cause))
TriesScript system them bound contents path (Err fault.NoMemory) = ⊤

-- the scripts at paths were tried, in order
abbrev pub AreTried : {S F : Type 0} → SystemGhosts S F → S → DiskGhosts Memory → Contents → List (List ℕ)
    → List Trial → Type 0
AreTried system them bound contents [] [] = ⊤
AreTried system them bound contents (path ∷ paths) (trial ∷ trials) = (trial.path.now ≡ path)
    × TriesScript system them bound contents path (Ok trial.differences.items)
    × AreTried system them bound contents paths trials
AreTried system them bound contents paths trials = ⊥

-- What trying the scripts at paths comes to: what was found of all; or why one of them can't be tried, after all those
-- before it were.
abbrev pub TriesEach : {S F : Type 0} → SystemGhosts S F → S → DiskGhosts Memory → Contents → List (List ℕ)
    → Result (List Trial) TrialFault → Type 0
TriesEach system them bound contents paths (Ok trials) = AreTried system them bound contents paths trials
TriesEach system them bound contents paths (Err why) = (earlier : List (List ℕ)) × (path : List ℕ)
    × (later : List (List ℕ)) × (paths ≡ earlier ++ path ∷ later)
    × ((trials : List Trial) × AreTried system them bound contents earlier trials)
    × TriesScript system them bound contents path (Err why)

-- trials that were made, as a list
abbrev pub trials_of : {A : Type 0} → Result (Vec Trial A) TrialFault → Result (List Trial) TrialFault
trials_of (Ok trials) = Ok trials.items
trials_of (Err why) = Err why

-- a script doesn't print what is wanted
abbrev pub is_failed : Trial → Bool
is_failed trial = not (is_nothing trial.differences.items)

-- how many scripts don't print what is wanted, and how many do
abbrev pub failures : List Trial → ℕ
failures trials = length (filter is_failed trials)

abbrev pub passes : List Trial → ℕ
passes trials = length trials - failures trials

-- what was found of a script: how its answers differ, and whether it prints what is wanted
abbrev pub trial_text : Trial → List ℕ
trial_text trial = trial.differences.items
    ++ (if is_nothing trial.differences.items then codes "ok " else codes "failed ") ++ trial.path.now ++ codes "\n"

-- what was found of each script, and how many print what is wanted, and don't
abbrev pub tally : List Trial → List ℕ
tally trials = flat_map trial_text trials
    ++ (decimal (passes trials) ++ codes " passed, " ++ decimal (failures trials)) ++ codes " failed\n"
