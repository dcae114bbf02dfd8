-- What the program does for its words, and how it ends (docs/reference/tool.md).
use Rattle.std.specs.Prelude.{Bool, Err, List, None, Ok, Option, Result, Some, Vec, [], bytes_eq, codes, flat_map}
use Rattle.std.specs.Prelude.{if◌then◌else◌, map, ℕ, ◌&&◌, ◌++◌, ◌≡◌, ◌≢◌}
use Rattle.std.specs.Borrow.{Bor}
use Rattle.pos_disk.specs.Memory.{Memory}
use Rattle.pos_disk.specs.declared.device.Disk.{Ghosts as DiskGhosts}
use Rattle.pos_file.specs.declared.block_file.BlockFile.{Ghosts as FileGhosts}
use Rattle.pos_file.specs.declared.file_disk.FileDisk.{FileDisk}
use Rattle.pos_mirror.specs.Mirror.{Mirror}
use Rattle.pos_program.specs.Migrations.{MigratesFile}
use Rattle.pos_program.specs.declared.choice_fault.ChoiceFault.{ChoiceFault}
use Rattle.pos_program.specs.declared.choice_fault.ChoiceFault.TheVariants as unread
use Rattle.pos_program.specs.declared.file_fault.FileFault.{FileFault}
use Rattle.pos_program.specs.declared.file_system.FileSystem.{Ghosts as SystemGhosts}
use Rattle.pos_program.specs.declared.named_files.NamedFiles.{Ghosts}
use Rattle.pos_tool.specs.Commands.{Chooses}
use Rattle.pos_tool.specs.Copies.{BacksUp, Restores}
use Rattle.pos_tool.specs.Differences.{WritesDifference}
use Rattle.pos_tool.specs.Faults.{status_of}
use Rattle.pos_tool.specs.NewFiles.{Loads, Salvages}
use Rattle.pos_tool.specs.NewTotals.{Creates}
use Rattle.pos_shell.specs.Outputs.{Output, Streams}
use Rattle.pos_tool.specs.Scripts.{EndsRun}
use Rattle.pos_tool.specs.Surveys.{EndsAt, Prints, PrintsFile}
use Rattle.pos_tool.specs.Trials.{EndsTest}
use Rattle.pos_report.specs.Texts.{explained, explained_as}
use Rattle.pos_report.specs.declared.codes.Code.{Code}
use Rattle.pos_tool.specs.declared.commands.Task.{Task}
use Rattle.pos_tool.specs.declared.commands.Task.TheVariants.{Ask, Backup, Completions, Create, Diff, Explain, Help}
use Rattle.pos_tool.specs.declared.commands.Task.TheVariants.{Load, Man, Migrate, Restore, Run, Salvage, Test, Version}
use Rattle.pos_tool.specs.declared.fault.Fault.{Fault}
use Rattle.pos_tool.specs.declared.fault.Fault.TheVariants as fault
use Rattle.pos_tool.specs.declared.fault.WordsFault.{WordsFault}
use Rattle.pos_tool.specs.declared.fault.WordsFault.TheVariants as words
use Rattle.pos_tool.specs.declared.folder.Folder.{Ghosts as FolderGhosts}
use Rattle.pos_tool.specs.declared.program.Pages.{Pages}
use Rattle.pos_tool.specs.declared.program.Terminals.{Terminals}
use Rattle.pos_report.specs.declared.question.Finding.{Finding}

-- what some of these codes mean is printed, by a word for their number or name; nothing if it is none's
abbrev pub Explains : List Code → List ℕ → Output → Output → Result Finding Fault → Type 0
Explains known word old new (Err (fault.NoCode code)) =
    (code.now ≡ word) × (flat_map (explained word) known ≡ []) × (new ≡ old)
Explains known word old new (Err fault.NoMemory) = new ≡ old
Explains known word old new result =
    (flat_map (explained word) known ≢ []) × Prints (flat_map (explained word) known) old new result

-- what the result codes mean that have a number or a name, and what the extended codes do
abbrev pub result_text : List Code → List ℕ → List ℕ
result_text known word = flat_map (explained_as (codes "result code") word) known

abbrev pub extended_text : List Code → List ℕ → List ℕ
extended_text known word = flat_map (explained_as (codes "extended code") word) known

-- what a result code means, and then the extended code after it; a fault if one of the words is none's
abbrev pub TextOfBoth : List Code → List ℕ → List ℕ → Result (List ℕ) Fault → Type 0
TextOfBoth known word extended (Ok text) = (result_text known word ≢ []) × (extended_text known extended ≢ [])
    × (text ≡ result_text known word ++ extended_text known extended)
TextOfBoth known word extended (Err (fault.NoResultCode code)) = (code.now ≡ word) × (result_text known word ≡ [])
TextOfBoth known word extended (Err (fault.NoExtendedCode code)) =
    (code.now ≡ extended) × (result_text known word ≢ []) × (extended_text known extended ≡ [])
TextOfBoth known word extended (Err why) = why ≡ fault.NoMemory

-- a text that was made is printed, or nothing for this fault
abbrev pub PrintsMade : Result (List ℕ) Fault → Output → Output → Result Finding Fault → Type 0
PrintsMade (Ok text) old new result = Prints text old new result
PrintsMade (Err why) old new result = (result ≡ Err why) × (new ≡ old)

-- what a result code means is printed, and then the extended code after it; nothing if one of the words is none's
abbrev pub ExplainsBoth : List Code → List ℕ → List ℕ → Output → Output → Result Finding Fault → Type 0
ExplainsBoth known word extended old new result =
    (made : Result (List ℕ) Fault) × TextOfBoth known word extended made × PrintsMade made old new result

-- what a code means is printed, alone or with the extended code after it
abbrev pub ExplainsAsked : List Code → List ℕ → Option (Bor (List ℕ)) → Output → Output → Result Finding Fault → Type 0
ExplainsAsked known word None old new result = Explains known word old new result
ExplainsAsked known word (Some extended) old new result = ExplainsBoth known word extended.now old new result

-- it moves the totals in the file at a path to layout 2
abbrev pub EndsMove : {F B : Type 0} → Ghosts F B → FileGhosts B → F → List ℕ → Result Finding Fault → Type 0
EndsMove files below them path result =
    (answer : Result (Unit {0}) FileFault) × MigratesFile files below them path answer
    × EndsAt path answer result

-- the page of a shell, if there is one
abbrev pub page_of : Pages → List ℕ → Option (List ℕ)
page_of pages shell =
    if bytes_eq shell (codes "bash") then Some pages.bash.now else
    if bytes_eq shell (codes "zsh") then Some pages.zsh.now else
    if bytes_eq shell (codes "fish") then Some pages.fish.now else None

-- a page is printed, if there is one for a shell
abbrev pub PrintsPage : List ℕ → Option (List ℕ) → Output → Output → Result Finding Fault → Type 0
PrintsPage shell (Some page) old new result = Prints page old new result
PrintsPage shell None old new (Err (fault.NoShell named)) = (named.now ≡ shell) × (new ≡ old)
PrintsPage shell None old new other = ⊥

-- what completes the words of a shell is printed
abbrev pub Completes : Pages → List ℕ → Output → Output → Result Finding Fault → Type 0
Completes pages shell old new result = PrintsPage shell (page_of pages shell) old new result

-- what it does for a task that reads no lines, over these files and pages, by how its output stood before, and after
abbrev pub Does : {F B S G : Type 0} → Ghosts F B → FileGhosts B → DiskGhosts (Mirror (FileDisk B))
    → DiskGhosts Memory → F → SystemGhosts S G → FolderGhosts S → FileGhosts G → S → S → Pages → Terminals → Task
    → Output → Output → Result Finding Fault → Type 0
Does files below mirrors memories them system folder under it later pages terminals Help old new result =
    Prints pages.help.now old new result × (later ≡ it)
Does files below mirrors memories them system folder under it later pages terminals Version old new result =
    Prints pages.version_line.now old new result × (later ≡ it)
Does files below mirrors memories them system folder under it later pages terminals (Explain code extended) old new
    result = ExplainsAsked pages.codes.now code.now extended old new result × (later ≡ it)
Does files below mirrors memories them system folder under it later pages terminals (Ask file question) old new
    result = PrintsFile files below them folder it file.now question old new result × (later ≡ it)
Does files below mirrors memories them system folder under it later pages terminals (Create file) old new result =
    Creates system under it file.now result × (new ≡ old) × (later ≡ it)
Does files below mirrors memories them system folder under it later pages terminals (Migrate file) old new result =
    EndsMove files below them file.now result × (new ≡ old) × (later ≡ it)
Does files below mirrors memories them system folder under it later pages terminals (Backup file to) old new result =
    BacksUp system folder under it later file.now to.now result × (new ≡ old)
Does files below mirrors memories them system folder under it later pages terminals (Restore from file replaces) old
    new result = Restores system folder under it later from.now file.now replaces result × (new ≡ old)
Does files below mirrors memories them system folder under it later pages terminals (Diff file other) old new result =
    WritesDifference files below them folder it file.now other.now old new result × (later ≡ it)
Does files below mirrors memories them system folder under it later pages terminals (Load text file) old new result =
    Loads system folder under it later text.now file.now result × (new ≡ old)
Does files below mirrors memories them system folder under it later pages terminals (Salvage file to) old new result =
    Salvages system folder under it later file.now to.now old new result
Does files below mirrors memories them system folder under it later pages terminals (Run scripts profile totals json)
    old new result = ⊥
Does files below mirrors memories them system folder under it later pages terminals (Test paths profile junit colour)
    old new result = EndsTest files them system folder under it later memories terminals.output paths.items profile
    junit colour old new result
Does files below mirrors memories them system folder under it later pages terminals (Completions shell) old new result =
    Completes pages shell.now old new result × (later ≡ it)
Does files below mirrors memories them system folder under it later pages terminals Man old new result =
    Prints pages.man.now old new result × (later ≡ it)

-- whether input and output are terminals
abbrev pub are_both : Terminals → Bool
are_both terminals = terminals.input && terminals.output

-- whether a person who types sees the errors
abbrev pub is_watched : Terminals → Bool
is_watched terminals = terminals.input && terminals.errors

-- what it does for any task; but for a run that is typed it reads nothing from its input
abbrev pub DoesTask : {F B S G : Type 0} → Ghosts F B → FileGhosts B → DiskGhosts (Mirror (FileDisk B))
    → DiskGhosts Memory → F → SystemGhosts S G → FolderGhosts S → FileGhosts G → S → S → Pages → Terminals → Task
    → Streams → Streams → Result Finding Fault → Type 0
DoesTask files below mirrors memories them system folder under it later pages terminals
    (Run scripts profile totals json) old new result = EndsRun files below mirrors memories them system it pages.codes
    pages.lines_help scripts.items profile totals json (are_both terminals) old new result × (later ≡ it)
DoesTask files below mirrors memories them system folder under it later pages terminals task old new result =
    (new.taken ≡ old.taken) × Does files below mirrors memories them system folder under it later pages terminals task
    old.output new.output result

-- what it does for what the words ask for: nothing where they ask for nothing
abbrev pub DoesChosen : {S : Type 0} → (Task → Type 0) → Result Task WordsFault → S → S → Streams → Streams
    → Result Finding Fault → Type 0
DoesChosen DoesIt (Ok task) it later old new result = DoesIt task
DoesChosen DoesIt (Err why) it later old new result =
    (result ≡ Err (fault.Words why)) × (new ≡ old) × (later ≡ it)

-- what it does for words
abbrev pub DoesAsAsked : {F B S G : Type 0} → Ghosts F B → FileGhosts B → DiskGhosts (Mirror (FileDisk B))
    → DiskGhosts Memory → F → SystemGhosts S G → FolderGhosts S → FileGhosts G → S → S → Pages → Terminals
    → List (List ℕ) → Streams → Streams → Result Finding Fault → Type 0
DoesAsAsked files below mirrors memories them system folder under it later pages terminals words old new result =
    (chosen : Result Task WordsFault) × Chooses words chosen
    × DoesChosen (λ task. DoesTask files below mirrors memories them system folder under it later pages terminals task
    old new result) chosen it later old new result

-- why words that couldn't be read ask for nothing
abbrev pub fault_of_unread : ChoiceFault → WordsFault
fault_of_unread unread.NoMemory = words.NoMemory
fault_of_unread other = words.NotUtf8

-- what it does for words that were read, or not
abbrev pub DoesAsRead : {S T A : Type 0} → (List (List ℕ) → Type 0) → (T → List ℕ) → Result (Vec T A) ChoiceFault → S
    → S → Streams → Streams → Result Finding Fault → Type 0
DoesAsRead DoesWords text (Ok words) it later old new result = DoesWords (map text words.items)
DoesAsRead DoesWords text (Err why) it later old new result =
    (result ≡ Err (fault.Words (fault_of_unread why))) × (new ≡ old) × (later ≡ it)

-- The whole program, by its words, its files, the file system that they are in, before and after, its pages, which of
-- its streams are terminals, how its input and its output stood before and after, and the status that it ends with.
pub record RunsProgram {F B S G T A : Type 0} (files : Ghosts F B) (below : FileGhosts B)
    (mirrors : DiskGhosts (Mirror (FileDisk B))) (memories : DiskGhosts Memory) (them : F) (system : SystemGhosts S G)
    (folder : FolderGhosts S) (under : FileGhosts G) (it later : S) (pages : Pages) (terminals : Terminals)
    (text : T → List ℕ) (words : Result (Vec T A) ChoiceFault) (old new : Streams) (ended : ℕ) : Type 0 where
  pub outcome : Result Finding Fault
  pub done : DoesAsRead (λ asked. DoesAsAsked files below mirrors memories them system folder under it later pages
      terminals asked old new outcome) text words it later old new outcome
  pub ends : ended ≡ status_of outcome
