-- The statuses of the program (docs/reference/tool.md, "Statuses").
use Rattle.std.specs.Prelude.{ℕ, Result, Ok, Err}
use Rattle.pos_program.specs.declared.file_fault.FileFault.{FileFault}
use Rattle.pos_program.specs.declared.file_fault.FileFault.TheVariants as file
use Rattle.pos_program.specs.declared.profile_fault.ProfileFileFault.{ProfileFileFault}
use Rattle.pos_program.specs.declared.profile_fault.ProfileFileFault.TheVariants as profile
use Rattle.pos_shell.specs.declared.runs.RunFault.{RunFault}
use Rattle.pos_shell.specs.declared.runs.RunFault.TheVariants as run
use Rattle.pos_shell.specs.declared.scripts.ScriptsFault.{ScriptsFault}
use Rattle.pos_shell.specs.declared.scripts.ScriptsFault.TheVariants as told
use Rattle.pos_shell.specs.declared.trials.TrialFault.{TrialFault}
use Rattle.pos_shell.specs.declared.trials.TrialFault.TheVariants as trial
use Rattle.pos_survey.specs.declared.fault.SurveyFault.{SurveyFault}
use Rattle.pos_survey.specs.declared.fault.SurveyFault.TheVariants as survey
use Rattle.pos_tool.specs.declared.fault.Fault.{Fault}
use Rattle.pos_tool.specs.declared.fault.Fault.TheVariants as fault
use Rattle.pos_tool.specs.declared.fault.WordsFault.{WordsFault}
use Rattle.pos_tool.specs.declared.fault.WordsFault.TheVariants as words
use Rattle.pos_report.specs.declared.load.LoadFault.{LoadFault}
use Rattle.pos_report.specs.declared.load.LoadFault.TheVariants as load
use Rattle.pos_report.specs.declared.question.Finding.{Finding}
use Rattle.pos_report.specs.declared.question.Finding.TheVariants.{Good, Nothing, Damaged}
use Rattle.pos_tool.specs.declared.whole.WholeFault.{WholeFault}
use Rattle.pos_tool.specs.declared.whole.WholeFault.TheVariants as whole

-- the status of what was found
abbrev pub finding_status : Finding → ℕ
finding_status Good = 0
finding_status Nothing = 1
finding_status Damaged = 2

-- the status of a fault of the words
abbrev pub words_status : WordsFault → ℕ
words_status words.NoMemory = 6
words_status other = 3

-- the status of a fault of a totals file
abbrev pub file_status : FileFault → ℕ
file_status file.Unformatted = 1
file_status file.Short = 1
file_status file.Damaged = 2
file_status (file.Broken at rule) = 2
file_status file.NoMemory = 6
file_status file.NoMemoryToMove = 6
file_status other = 4

-- the status of a fault of the bytes of a totals file
abbrev pub survey_status : SurveyFault → ℕ
survey_status survey.TooSmall = 1
survey_status survey.Unformatted = 1
survey_status (survey.Damaged at rule) = 2
survey_status survey.NoMemory = 6

-- the status of a fault of a file that was to be made
abbrev pub whole_status : WholeFault → ℕ
whole_status whole.NoMemory = 6
whole_status other = 4

-- the status of a fault of a text that was to be loaded
abbrev pub load_status : LoadFault → ℕ
load_status load.NoMemory = 6
load_status load.NoDump = 1

-- the status of a fault of a profile
abbrev pub profile_status : ProfileFileFault → ℕ
profile_status profile.NoMemory = 6
profile_status other = 4

-- the status of a run that stopped
abbrev pub told_status : ScriptsFault → ℕ
told_status told.NoMemory = 6
told_status told.Write = 5
told_status told.Read = 4

-- the status of a fault of a run
abbrev pub run_status : RunFault → ℕ
run_status (run.Script path cause) = 4
run_status run.Input = 4
run_status (run.Profile path cause) = profile_status cause
run_status (run.Totals path cause) = file_status cause
run_status (run.Stopped cause) = told_status cause

-- the status of a script that can't be tried
abbrev pub trial_status : TrialFault → ℕ
trial_status (trial.Script path cause) = 4
trial_status (trial.Wanted path cause) = 4
trial_status trial.NoMemory = 6

-- the status of a fault
abbrev pub status : Fault → ℕ
status (fault.Words why) = words_status why
status (fault.File path cause) = file_status cause
status (fault.Totals path cause) = survey_status cause
status (fault.Unsalvaged path cause) = survey_status cause
status (fault.Whole path cause) = whole_status cause
status (fault.Load path cause) = load_status cause
status (fault.Taken path) = 4
status (fault.NoFile path name) = 1
status (fault.NoCode code) = 1
status (fault.NoResultCode code) = 1
status (fault.NoExtendedCode code) = 1
status (fault.NoShell shell) = 1
status (fault.NoColour word) = 3
status (fault.Run why) = run_status why
status (fault.Trial why) = trial_status why
status (fault.Folder path cause) = 4
status (fault.NoScripts path) = 1
status fault.Write = 5
status fault.NoMemory = 6

-- the status that the program ends with
abbrev pub status_of : Result Finding Fault → ℕ
status_of (Ok finding) = finding_status finding
status_of (Err why) = status why
