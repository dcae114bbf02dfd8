-- What making a totals file comes to (docs/reference/tool.md, "create").
use Rattle.std.specs.Prelude.{◌≡◌, ℕ, List, true, Result, Ok, Err}
use Rattle.std.specs.Bool.{MatchBool}
use Rattle.pos_file.specs.declared.block_file.BlockFile.{Ghosts as FileGhosts}
use Rattle.pos_file.specs.declared.file_disk.FileDisk.{FileDisk}
use Rattle.pos_mirror.specs.Mirror.{Mirror}
use Rattle.pos_program.specs.Answers.{AnswersFor}
use Rattle.pos_program.specs.Formats.{FormatsTotals}
use Rattle.pos_program.specs.TotalsDisks.{LocksTotals, MirrorsDisk, MirrorsLong}
use Rattle.pos_program.specs.declared.file_fault.FileFault.{FileFault}
use Rattle.pos_program.specs.declared.file_fault.FileFault.TheVariants as file
use Rattle.pos_program.specs.declared.file_system.FileSystem.{Ghosts as SystemGhosts}
use Rattle.pos_report.specs.Texts.{are_zero}
use Rattle.pos_report.specs.declared.question.Finding.{Finding}
use Rattle.pos_survey.specs.declared.fault.SurveyFault.{SurveyFault}
use Rattle.pos_survey.specs.declared.fault.SurveyFault.TheVariants as survey
use Rattle.pos_tool.specs.Copies.{ChecksSound}
use Rattle.pos_tool.specs.Surveys.{EndsAt, EndsAtFile}
use Rattle.pos_tool.specs.declared.fault.Fault.{Fault}
use Rattle.pos_tool.specs.declared.fault.Fault.TheVariants as fault

-- the file at a path, which may be made, is locked for this program alone, and then as many bytes of it are read as
-- totals have, or all of a shorter one
abbrev pub LocksFile : {S F : Type 0} → SystemGhosts S F → FileGhosts F → S → List ℕ
    → Result (Mirror (FileDisk F)) FileFault → Type 0
LocksFile {F = F} system below them path result =
    (locked : Result (FileDisk F) FileFault) × LocksTotals system below them true path locked
    × AnswersFor (MirrorsDisk below) locked result

-- the disk in a file is formatted, after it was lengthened if it was too short
abbrev pub FormatsLong : {S F : Type 0} → SystemGhosts S F → FileGhosts F → S → List ℕ → FileDisk F
    → Result (Unit {0}) FileFault → Type 0
FormatsLong {F = F} system below them path disk result =
    (long : Result (Mirror (FileDisk F)) FileFault) × MirrorsLong system below them path disk long
    × AnswersFor (FormatsTotals below) long result

-- why the file at a path isn't formatted: it has totals, sound or damaged; or other bytes, or fewer than totals have
abbrev pub RefusesFound : List ℕ → Result (Unit {0}) SurveyFault → Fault → Type 0
RefusesFound path (Err survey.TooSmall) (fault.Taken at) = at.now ≡ path
RefusesFound path (Err survey.TooSmall) other = ⊥
RefusesFound path (Err survey.Unformatted) (fault.Taken at) = at.now ≡ path
RefusesFound path (Err survey.Unformatted) other = ⊥
RefusesFound path (Err survey.NoMemory) result = result ≡ fault.NoMemory
RefusesFound path found (fault.File at why) = (at.now ≡ path) × (why ≡ file.Formatted)
RefusesFound path found other = ⊥

-- why it isn't, by its bytes
abbrev pub RefusesBytes : List ℕ → List ℕ → Fault → Type 0
RefusesBytes path bytes result =
    (found : Result (Unit {0}) SurveyFault) × ChecksSound bytes found × RefusesFound path found result

-- a file isn't formatted, for this reason: it was closed without a further call
abbrev pub LeavesFile : {F : Type 0} → FileGhosts F → List ℕ → Mirror (FileDisk F) → Result Finding Fault → Type 0
LeavesFile below path found (Ok done) = ⊥
LeavesFile below path found (Err why) =
    RefusesBytes path found.memory.present.reading why × below.closed found.below.file

-- what becomes of a file that was locked and read: it is formatted if its bytes are all 0, and only then
abbrev pub CreatesOver : {S F : Type 0} → SystemGhosts S F → FileGhosts F → S → List ℕ → Mirror (FileDisk F)
    → Result Finding Fault → Type 0
CreatesOver system below them path found result =
    MatchBool (are_zero found.memory.present.reading)
    ((answer : Result (Unit {0}) FileFault) × FormatsLong system below them path found.below answer
    × EndsAt path answer result)
    (LeavesFile below path found result)

-- what becomes of a file that was locked and read, or not
abbrev pub CreatesFound : {S F : Type 0} → SystemGhosts S F → FileGhosts F → S → List ℕ
    → Result (Mirror (FileDisk F)) FileFault → Result Finding Fault → Type 0
CreatesFound system below them path (Ok found) result = CreatesOver system below them path found result
CreatesFound system below them path (Err cause) result = EndsAtFile path cause result

-- What making a totals file at a path comes to: the file was locked and read before. Only one that wasn't there, or had
-- only zero bytes among those that totals have, is written to.
abbrev pub Creates : {S F : Type 0} → SystemGhosts S F → FileGhosts F → S → List ℕ → Result Finding Fault → Type 0
Creates {F = F} system below them path result =
    (found : Result (Mirror (FileDisk F)) FileFault) × LocksFile system below them path found
    × CreatesFound system below them path found result
