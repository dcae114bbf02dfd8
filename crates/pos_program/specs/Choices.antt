-- The program's command line, and what words ask for (docs/reference/console.md, "The program").
use Rattle.std.specs.Prelude.{◌≡◌, ◌≢◌, ◌⊎◌, List, [], Option, Some, None, true, codes, Result, Ok, Err, unwrap_or}
use Rattle.std.specs.declared.io.ErrorKind.{ErrorKind as IoKind}
use Rattle.std.specs.declared.io.ErrorKind.TheVariants as io
use Rattle.clap.specs.Words.{App, IsAmong, Row, Rule, Text, fault_of, first_of, kind_of, new_app, new_rule}
use Rattle.clap.specs.Words.{subcommand_of, with_rule, with_subcommand}
use Rattle.clap.specs.Simple.{on_top}
use Rattle.clap.specs.declared.builder.ArgAction.TheVariants.{Set}
use Rattle.clap.specs.declared.error.Error.{Error}
use Rattle.clap.specs.declared.error.kind.ErrorKind.{ErrorKind}
use Rattle.clap.specs.declared.error.kind.ErrorKind.TheVariants.{DisplayHelp, OutOfMemory}
use Rattle.pos_program.specs.declared.words.Task.{Task}
use Rattle.pos_program.specs.declared.words.Task.TheVariants.{Demo, Run, Format, Migrate, Files}
use Rattle.pos_program.specs.declared.choice_fault.ChoiceFault.{ChoiceFault}
use Rattle.pos_program.specs.declared.choice_fault.ChoiceFault.TheVariants.{Words, NoMemory}
use Rattle.pos_program.specs.declared.choice_fault.WordsFault.TheVariants.{Help, Refused, NotUtf8}

-- an option `--NAME FILE` that has to be there
abbrev pub path_rule : Text → Rule
path_rule name = record (new_rule name) { long = Some name; required = true; action = Some Set }

-- run --profile FILE --disk FILE
abbrev pub run_line : App
run_line = with_rule (with_rule (new_app (codes "run")) (path_rule (codes "profile"))) (path_rule (codes "disk"))

-- COMMAND --disk FILE
abbrev pub disk_line : Text → App
disk_line command = with_rule (new_app command) (path_rule (codes "disk"))

-- the program's, which has no command yet: its name isn't among the words, `help` is no command, and it asks for one
abbrev pub bare_line : App
bare_line = on_top (λ s. record s { no_binary_name = true; disable_help_subcommand = true; subcommand_required = true })
    (new_app (codes "pos_console"))

-- the words of one of the four commands
abbrev pub program_line : App
program_line = with_subcommand (with_subcommand (with_subcommand (with_subcommand bare_line run_line.top)
    (disk_line (codes "format")).top) (disk_line (codes "migrate")).top) (disk_line (codes "files")).top

-- the command that `clap` finds in words, with its matches, if there is one
abbrev pub command_in : List Text → Option (Text × List Row)
command_in words = subcommand_of program_line words

-- the path that the matches of a command hold of an option; empty if they held none
abbrev pub path_in : Text → List Row → Text
path_in option rows = unwrap_or (first_of option rows) []

-- a command is one of the program's
abbrev pub IsCommand : Text → Type 0
IsCommand name = (name ≡ codes "run") ⊎ (name ≡ codes "format") ⊎ (name ≡ codes "migrate") ⊎ (name ≡ codes "files")

-- a command was found, and is one of the program's
abbrev pub IsKnown : Option (Text × List Row) → Type 0
IsKnown None = ⊥
IsKnown (Some found) = IsCommand found.0

-- what the command that was found asks for, with the paths in its matches
abbrev pub Asks : Option (Text × List Row) → Task → Type 0
Asks (Some found) (Run profile disk) = (found.0 ≡ codes "run") × (profile.now ≡ path_in (codes "profile") found.1)
    × (disk.now ≡ path_in (codes "disk") found.1)
Asks (Some found) (Format disk) = (found.0 ≡ codes "format") × (disk.now ≡ path_in (codes "disk") found.1)
Asks (Some found) (Migrate disk) = (found.0 ≡ codes "migrate") × (disk.now ≡ path_in (codes "disk") found.1)
Asks (Some found) (Files disk) = (found.0 ≡ codes "files") × (disk.now ≡ path_in (codes "disk") found.1)
Asks found other = ⊥

-- there are words, and `clap` finds a fault of this kind in them
abbrev pub HasFault : List Text → ErrorKind → Type 0
HasFault words kind = (words ≢ []) × IsAmong kind (fault_of program_line words)

-- what the words ask for: the demonstration if there are none, else the command in which `clap` finds no fault; or why
-- they ask for nothing. Want of memory needs words too
abbrev pub Chooses : List Text → Result Task ChoiceFault → Type 0
Chooses words (Ok Demo) = words ≡ []
Chooses words (Ok task) = (fault_of program_line words ≡ []) × Asks (command_in words) task
Chooses words (Err (Words Help)) = HasFault words DisplayHelp
Chooses words (Err (Words (Refused error))) = HasFault words (kind_of error)
Chooses words (Err (Words NotUtf8)) = ⊥
Chooses words (Err NoMemory) = words ≢ []

-- what an error of `clap` is told as: want of memory, a call for help, or itself
abbrev pub ReportsWhy : Error → ChoiceFault → Type 0
ReportsWhy error (Words Help) = kind_of error ≡ DisplayHelp
ReportsWhy error (Words (Refused told)) = (told ≡ error) × (kind_of error ≢ OutOfMemory)
ReportsWhy error (Words NotUtf8) = ⊥
ReportsWhy error NoMemory = kind_of error ≡ OutOfMemory

-- what an error of the system is told as that reads the words: want of memory, or that one of them is no UTF-8
abbrev pub ReportsUnread : IoKind → ChoiceFault → Type 0
ReportsUnread kind (Words NotUtf8) = kind ≢ io.OutOfMemory
ReportsUnread kind NoMemory = kind ≡ io.OutOfMemory
ReportsUnread kind other = ⊥

-- the words couldn't be read, for this reason: one is no UTF-8, or there was no memory
abbrev pub AreUnread : ChoiceFault → Type 0
AreUnread why = (why ≡ Words NotUtf8) ⊎ (why ≡ NoMemory)
