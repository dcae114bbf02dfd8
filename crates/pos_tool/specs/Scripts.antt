-- What running scripts comes to, to the program (docs/reference/tool.md, "run").
use Rattle.std.specs.Prelude.{◌≡◌, ◌∷◌, [], ℕ, Bool, true, false, List, Option, None, Result, Ok, Err, bytes_eq, codes}
use Rattle.std.specs.Borrow.{Bor}
use Rattle.pos_disk.specs.Memory.{Memory}
use Rattle.pos_disk.specs.declared.device.Disk.{Ghosts as DiskGhosts}
use Rattle.pos_file.specs.declared.block_file.BlockFile.{Ghosts as FileGhosts}
use Rattle.pos_file.specs.declared.file_disk.FileDisk.{FileDisk}
use Rattle.pos_mirror.specs.Mirror.{Mirror}
use Rattle.pos_program.specs.declared.file_system.FileSystem.{Ghosts as SystemGhosts}
use Rattle.pos_program.specs.declared.named_files.NamedFiles.{Ghosts}
use Rattle.pos_report.specs.declared.codes.Code.{Code}
use Rattle.pos_report.specs.declared.question.Finding.{Finding}
use Rattle.pos_report.specs.declared.question.Finding.TheVariants.{Good}
use Rattle.pos_shell.specs.Outputs.{Streams}
use Rattle.pos_shell.specs.Runs.{Runs, RunsAll}
use Rattle.pos_shell.specs.declared.runs.RunFault.{RunFault}
use Rattle.pos_shell.specs.declared.answer_texts.AnswerFormat.{AnswerFormat}
use Rattle.pos_shell.specs.declared.answer_texts.AnswerFormat.TheVariants.{Json, Numbered, Typed}
use Rattle.pos_tool.specs.declared.fault.Fault.{Fault}
use Rattle.pos_tool.specs.declared.fault.Fault.TheVariants as fault

-- the lines of a run are typed: input and output are terminals, no script is named, and a person reads the answers
abbrev pub is_typed : List (Bor (List ℕ)) → Bool → Bool → Bool
is_typed (path ∷ []) false true = bytes_eq path.now (codes "-")
is_typed paths json is_terminal = false

-- a person who types lines waits for them to be run: no script is named, so that a terminal is read to its end, and the
-- person sees the errors
abbrev pub is_awaited : List (Bor (List ℕ)) → Bool → Bool → Bool
is_awaited (path ∷ []) false true = bytes_eq path.now (codes "-")
is_awaited paths typed is_watched = false

-- how the answers of scripts are told
abbrev pub form_of : Bool → AnswerFormat
form_of true = Json
form_of false = Numbered

-- what is answered of a run, to the program
abbrev pub run_finding : Result (Unit {0}) RunFault → Result Finding Fault
run_finding (Ok u) = Ok Good
run_finding (Err why) = Err (fault.Run why)

-- it runs what is typed, or the scripts at paths, over a profile and totals, and tells what each line is answered
abbrev pub RunsAsked : {F B S G : Type 0} → Ghosts F B → FileGhosts B → DiskGhosts (Mirror (FileDisk B))
    → DiskGhosts Memory → F → SystemGhosts S G → S → Bor (List Code) → Bor (List ℕ) → List (Bor (List ℕ))
    → Option (Bor (List ℕ)) → Option (Bor (List ℕ)) → Bool → Bool → Streams → Streams → Result (Unit {0}) RunFault
    → Type 0
RunsAsked files below mirrors memories them system it known help paths profile totals json true old new answer =
    RunsAll files below mirrors memories them (record { codes = known; help = help; form = Typed }) None profile totals
    old new answer
RunsAsked files below mirrors memories them system it known help paths profile totals json false old new answer =
    Runs files below mirrors memories them system it (record { codes = known; help = help; form = form_of json }) paths
    profile totals old new answer

-- likewise, and the program is answered
abbrev pub EndsRun : {F B S G : Type 0} → Ghosts F B → FileGhosts B → DiskGhosts (Mirror (FileDisk B))
    → DiskGhosts Memory → F → SystemGhosts S G → S → Bor (List Code) → Bor (List ℕ) → List (Bor (List ℕ))
    → Option (Bor (List ℕ)) → Option (Bor (List ℕ)) → Bool → Bool → Streams → Streams → Result Finding Fault → Type 0
EndsRun files below mirrors memories them system it known help paths profile totals json is_terminal old new result =
    (answer : Result (Unit {0}) RunFault)
    × RunsAsked files below mirrors memories them system it known help paths profile totals json
    (is_typed paths json is_terminal) old new answer
    × (result ≡ run_finding answer)
