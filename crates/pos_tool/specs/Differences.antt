-- How two totals files differ (docs/reference/tool.md, "diff").
use Rattle.std.specs.Prelude.{◌≡◌, ℕ, List, [], ◌∷◌, Result, Ok, Err}
use Rattle.pos_file.specs.declared.block_file.BlockFile.{Ghosts as FileGhosts}
use Rattle.pos_file.specs.declared.file_disk.FileDisk.{FileDisk}
use Rattle.pos_mirror.specs.Mirror.{Mirror}
use Rattle.pos_program.specs.declared.file_fault.FileFault.{FileFault}
use Rattle.pos_program.specs.declared.named_files.NamedFiles.{Ghosts}
use Rattle.pos_report.specs.Dump.{difference_text}
use Rattle.pos_report.specs.declared.question.Finding.{Finding}
use Rattle.pos_report.specs.declared.question.Finding.TheVariants.{Good, Nothing}
use Rattle.pos_survey.specs.Damages.{Breaks}
use Rattle.pos_survey.specs.Descriptions.{Describes}
use Rattle.pos_survey.specs.declared.survey.Survey.{Survey}
use Rattle.pos_shell.specs.Outputs.{IsCutOff, IsWritten, Output}
use Rattle.pos_tool.specs.Surveys.{ClosesBefore, EndsAtFile}
use Rattle.pos_tool.specs.declared.fault.Fault.{Fault}
use Rattle.pos_tool.specs.declared.fault.Fault.TheVariants as fault
use Rattle.pos_tool.specs.declared.folder.Folder.{Ghosts as FolderGhosts}

-- what a survey tells of the bytes of the totals file at a path, or why there is none
abbrev pub SurveysBytes : List ℕ → List ℕ → Result Survey Fault → Type 0
SurveysBytes path bytes (Ok survey) = Describes bytes survey
SurveysBytes path bytes (Err (fault.Totals at cause)) = (at.now ≡ path) × Breaks bytes cause
SurveysBytes path bytes (Err other) = ⊥

-- what a survey tells of totals that were only read, whose file was closed while an output stood like this; or why they
-- can't be read
abbrev pub SurveysOpened : {S B : Type 0} → FileGhosts B → FolderGhosts S → S → Output → List ℕ
    → Result (Mirror (FileDisk B)) FileFault → Result Survey Fault → Type 0
SurveysOpened below folder it output path (Ok totals) result =
    ClosesBefore below folder it output totals × SurveysBytes path totals.memory.present.reading result
SurveysOpened below folder it output path (Err cause) result = EndsAtFile path cause result

-- what a survey tells of the totals file at a path
abbrev pub SurveysFile : {F B S : Type 0} → Ghosts F B → FileGhosts B → F → FolderGhosts S → S → Output → List ℕ
    → Result Survey Fault → Type 0
SurveysFile {F} {B} files below them folder it output path result =
    (opened : Result (Mirror (FileDisk B)) FileFault) × files.reads_disk them path opened
    × SurveysOpened below folder it output path opened result

-- what is found where totals differ by a text
abbrev pub difference_finding : List ℕ → Finding
difference_finding [] = Good
difference_finding (byte ∷ bytes) = Nothing

-- how totals differ of which surveys tell is printed, as far as it can be written
abbrev pub PrintsDifference : Survey → Survey → Output → Output → Result Finding Fault → Type 0
PrintsDifference first second old new (Ok finding) =
    (finding ≡ difference_finding (difference_text first.directory.files second.directory.files))
    × IsWritten old new (difference_text first.directory.files second.directory.files)
PrintsDifference first second old new (Err fault.Write) =
    IsCutOff old new (difference_text first.directory.files second.directory.files)
PrintsDifference first second old new (Err why) = (why ≡ fault.NoMemory) × (new ≡ old)

-- what is printed of one survey, and another one that is there or not
abbrev pub PrintsSecond : Survey → Result Survey Fault → Output → Output → Result Finding Fault → Type 0
PrintsSecond one (Ok other) old new result = PrintsDifference one other old new result
PrintsSecond one (Err why) old new result = (result ≡ Err why) × (new ≡ old)

-- what is printed of a first survey that is there or not, and of the totals file at a path
abbrev pub PrintsFirst : {F B S : Type 0} → Ghosts F B → FileGhosts B → F → FolderGhosts S → S → List ℕ
    → Result Survey Fault → Output → Output → Result Finding Fault → Type 0
PrintsFirst files below them folder it second (Ok one) old new result =
    (other : Result Survey Fault) × SurveysFile files below them folder it old second other
    × PrintsSecond one other old new result
PrintsFirst files below them folder it second (Err why) old new result = (result ≡ Err why) × (new ≡ old)

-- how the totals files at two paths differ is printed, which are closed before; the second is looked at if the first is
-- sound
abbrev pub WritesDifference : {F B S : Type 0} → Ghosts F B → FileGhosts B → F → FolderGhosts S → S → List ℕ → List ℕ
    → Output → Output → Result Finding Fault → Type 0
WritesDifference files below them folder it first second old new result =
    (one : Result Survey Fault) × SurveysFile files below them folder it old first one
    × PrintsFirst files below them folder it second one old new result
