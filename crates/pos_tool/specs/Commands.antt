-- What words ask for (docs/reference/tool.md, "Commands").
use Rattle.std.specs.Prelude.{◌≡◌, ◌≢◌, ◌⊎◌, List, [], Bool, Option, Some, None, Result, Ok, Err, bytes_eq, codes, map}
use Rattle.std.specs.Prelude.{option_map, unwrap_or, ⊤}
use Rattle.clap.specs.Words.{IsAmong, Row, Text, all_of, fault_of, first_of, kind_of, subcommand_of}
use Rattle.clap.specs.declared.error.Error.{Error}
use Rattle.clap.specs.declared.error.kind.ErrorKind.TheVariants.{DisplayHelp, DisplayVersion, OutOfMemory}
use Rattle.pos_tool.specs.Lines.{program_line}
use Rattle.pos_tool.specs.declared.commands.Task.{Task}
use Rattle.pos_tool.specs.declared.commands.Task.TheVariants.{Help, Version, Explain, Ask, Create, Migrate, Backup}
use Rattle.pos_tool.specs.declared.commands.Task.TheVariants.{Restore, Diff, Load, Salvage, Run, Test, Completions, Man}
use Rattle.pos_tool.specs.declared.fault.WordsFault.{WordsFault}
use Rattle.pos_tool.specs.declared.fault.WordsFault.TheVariants.{Refused, NotUtf8, NoMemory}
use Rattle.pos_report.specs.declared.question.Question.{Question}
use Rattle.pos_report.specs.declared.question.Question.TheVariants as question
use Rattle.pos_report.specs.declared.question.Question.TheVariants.{Check, Files, Cat}

-- the command that `clap` finds in words, with its matches, if there is one
abbrev pub command_in : List Text → Option (Text × List Row)
command_in words = subcommand_of program_line words

-- the word that the matches of a command hold of a place; empty if they held none
abbrev pub word_in : Text → List Row → Text
word_in place rows = unwrap_or (first_of place rows) []

-- the words that the matches of a command hold of a place
abbrev pub words_in : Text → List Row → List Text
words_in place rows = unwrap_or (all_of place rows) []

-- the matches of a command hold an option
abbrev pub is_given : Text → List Row → Bool
is_given option rows = bytes_eq (word_in option rows) (codes "true")

-- a command asks of a totals file
abbrev pub IsQuestion : Text → Type 0
IsQuestion name =
    (name ≡ codes "check") ⊎ (name ≡ codes "files") ⊎ (name ≡ codes "dump") ⊎ (name ≡ codes "cat")

-- what a command asks of a totals file, with the words and options in its matches; nothing if it is another one
abbrev pub AsksOf : Text → List Row → Option Question → Type 0
AsksOf name rows None = ¬ (IsQuestion name)
AsksOf name rows (Some (Check quiet)) = (name ≡ codes "check") × (quiet ≡ is_given (codes "quiet") rows)
AsksOf name rows (Some (Files json)) = (name ≡ codes "files") × (json ≡ is_given (codes "json") rows)
AsksOf name rows (Some question.Dump) = name ≡ codes "dump"
AsksOf name rows (Some (Cat file hex)) = (name ≡ codes "cat") × (file.now ≡ word_in (codes "NAME") rows)
    × (hex ≡ is_given (codes "hex") rows)

-- a command makes something
abbrev pub IsMaking : Text → Type 0
IsMaking name = (name ≡ codes "create") ⊎ (name ≡ codes "migrate") ⊎ (name ≡ codes "backup")
    ⊎ (name ≡ codes "restore") ⊎ (name ≡ codes "load") ⊎ (name ≡ codes "salvage")

-- what a command makes, with the words and options in its matches; nothing if it is another one
abbrev pub MakesOf : Text → List Row → Option Task → Type 0
MakesOf name rows None = ¬ (IsMaking name)
MakesOf name rows (Some (Create file)) = (name ≡ codes "create") × (file.now ≡ word_in (codes "FILE") rows)
MakesOf name rows (Some (Migrate file)) = (name ≡ codes "migrate") × (file.now ≡ word_in (codes "FILE") rows)
MakesOf name rows (Some (Backup file to)) = (name ≡ codes "backup") × (file.now ≡ word_in (codes "FILE") rows)
    × (to.now ≡ word_in (codes "TO") rows)
MakesOf name rows (Some (Restore from file replaces)) = (name ≡ codes "restore")
    × (from.now ≡ word_in (codes "FROM") rows) × (file.now ≡ word_in (codes "FILE") rows)
    × (replaces ≡ is_given (codes "replace") rows)
MakesOf name rows (Some (Load text file)) = (name ≡ codes "load") × (text.now ≡ word_in (codes "TEXT") rows)
    × (file.now ≡ word_in (codes "FILE") rows)
MakesOf name rows (Some (Salvage file to)) = (name ≡ codes "salvage") × (file.now ≡ word_in (codes "FILE") rows)
    × (to.now ≡ word_in (codes "TO") rows)
MakesOf name rows (Some other) = ⊥

-- a command runs scripts
abbrev pub IsRunning : Text → Type 0
IsRunning name = (name ≡ codes "run") ⊎ (name ≡ codes "test")

-- what a command runs, with the words and options in its matches; nothing if it is another one
abbrev pub RunsOf : Text → List Row → Option Task → Type 0
RunsOf name rows None = ¬ (IsRunning name)
RunsOf name rows (Some (Run scripts profile totals json)) = (name ≡ codes "run")
    × (map (λ script. script.now) scripts.items ≡ words_in (codes "SCRIPT") rows)
    × (option_map (λ path. path.now) profile ≡ first_of (codes "profile") rows)
    × (option_map (λ path. path.now) totals ≡ first_of (codes "totals") rows)
    × (json ≡ is_given (codes "json") rows)
RunsOf name rows (Some (Test paths profile junit colour)) = (name ≡ codes "test")
    × (map (λ path. path.now) paths.items ≡ words_in (codes "PATH") rows)
    × (option_map (λ path. path.now) profile ≡ first_of (codes "profile") rows)
    × (option_map (λ path. path.now) junit ≡ first_of (codes "junit") rows)
    × (option_map (λ word. word.now) colour ≡ first_of (codes "color") rows)
RunsOf name rows (Some other) = ⊥

-- a command prints something else than the help
abbrev pub IsPrinting : Text → Type 0
IsPrinting name = (name ≡ codes "version") ⊎ (name ≡ codes "explain") ⊎ (name ≡ codes "completions")
    ⊎ (name ≡ codes "man") ⊎ (name ≡ codes "diff") ⊎ IsQuestion name

-- what a command prints, with the words and options in its matches; the help if it is no other one
abbrev pub PrintsOf : Text → List Row → Task → Type 0
PrintsOf name rows Help = ¬ (IsPrinting name)
PrintsOf name rows Version = name ≡ codes "version"
PrintsOf name rows (Explain code extended) = (name ≡ codes "explain") × (code.now ≡ word_in (codes "CODE") rows)
    × (option_map (λ word. word.now) extended ≡ first_of (codes "EXTENDED") rows)
PrintsOf name rows (Completions shell) =
    (name ≡ codes "completions") × (shell.now ≡ word_in (codes "SHELL") rows)
PrintsOf name rows Man = name ≡ codes "man"
PrintsOf name rows (Diff file other) = (name ≡ codes "diff") × (file.now ≡ word_in (codes "FILE") rows)
    × (other.now ≡ word_in (codes "OTHER") rows)
PrintsOf name rows (Ask file question) =
    (file.now ≡ word_in (codes "FILE") rows) × AsksOf name rows (Some question)
PrintsOf name rows other = ⊥

-- what a command asks for: something that it makes, runs or prints; else the help
abbrev pub AsksFound : Text → List Row → Task → Type 0
AsksFound name rows task = MakesOf name rows (Some task)
    ⊎ (MakesOf name rows None × (RunsOf name rows (Some task) ⊎ (RunsOf name rows None × PrintsOf name rows task)))

-- what the command that was found asks for, if there is one; else the help
abbrev pub Asks : Option (Text × List Row) → Task → Type 0
Asks None task = task ≡ Help
Asks (Some found) task = AsksFound found.0 found.1 task

-- the words have this fault, which is how `clap` tells that it was asked for help or the version
abbrev pub Shows : List Text → Task → Type 0
Shows words Help = IsAmong DisplayHelp (fault_of program_line words)
Shows words Version = IsAmong DisplayVersion (fault_of program_line words)
Shows words other = ⊥

-- what the words ask for, in which `clap` finds no fault, or which ask it for help or the version; or why they ask for
-- nothing, which is a fault that it finds
abbrev pub Chooses : List Text → Result Task WordsFault → Type 0
Chooses words (Ok task) =
    ((fault_of program_line words ≡ []) × Asks (command_in words) task) ⊎ Shows words task
Chooses words (Err (Refused error)) = IsAmong (kind_of error) (fault_of program_line words)
Chooses words (Err NotUtf8) = ⊥
Chooses words (Err NoMemory) = ⊤

-- what an error of `clap` is told as: want of memory, a call for help or the version, or itself
abbrev pub PrintsWhy : Error → Result Task WordsFault → Type 0
PrintsWhy error (Ok Help) = kind_of error ≡ DisplayHelp
PrintsWhy error (Ok Version) = kind_of error ≡ DisplayVersion
PrintsWhy error (Ok other) = ⊥
PrintsWhy error (Err (Refused told)) = (told ≡ error) × (kind_of error ≢ OutOfMemory)
PrintsWhy error (Err NotUtf8) = ⊥
PrintsWhy error (Err NoMemory) = kind_of error ≡ OutOfMemory
