-- What the program prints of a totals file (docs/reference/tool.md, "Commands").
use Rattle.std.specs.Prelude.{◌≡◌, ℕ, List, [], Result, Ok, Err, Vec}
use Rattle.pos_file.specs.declared.block_file.BlockFile.{Ghosts as FileGhosts}
use Rattle.pos_file.specs.declared.file_disk.FileDisk.{FileDisk}
use Rattle.pos_mirror.specs.Mirror.{Mirror}
use Rattle.pos_program.specs.TotalsDisks.{AreRead}
use Rattle.pos_program.specs.declared.file_fault.FileFault.{FileFault}
use Rattle.pos_program.specs.declared.named_files.NamedFiles.{Ghosts}
use Rattle.pos_report.specs.Answers.{Answers, Refuses}
use Rattle.pos_shell.specs.Outputs.{IsCutOff, IsWritten, Output}
use Rattle.pos_report.specs.declared.answers.AnswerFault.TheVariants as answer
use Rattle.pos_tool.specs.declared.fault.Fault.{Fault}
use Rattle.pos_tool.specs.declared.fault.Fault.TheVariants as fault
use Rattle.pos_tool.specs.declared.folder.Folder.{Ghosts as FolderGhosts}
use Rattle.pos_report.specs.declared.question.Finding.{Finding}
use Rattle.pos_report.specs.declared.question.Finding.TheVariants.{Good}
use Rattle.pos_report.specs.declared.question.Question.{Question}
use Rattle.pos_report.specs.declared.question.Question.TheVariants.{Cat}

-- the name of a file that a question asks for
abbrev pub name_in : Question → List ℕ
name_in (Cat name hex) = name.now
name_in other = []

-- what is found, and the text of the answer as a list
abbrev pub finding_and_text : {A : Type 0} → Result (Finding × Vec ℕ A) Fault → Result (Finding × List ℕ) Fault
finding_and_text (Ok found) = Ok (found.0, found.1.items)
finding_and_text (Err why) = Err why

-- what is answered to a question about the bytes of the totals file at a path, or why there is no answer
abbrev pub AnswersBytes : List ℕ → Question → List ℕ → Result (Finding × List ℕ) Fault → Type 0
AnswersBytes path question bytes (Ok found) = Answers question bytes found.0 found.1
AnswersBytes path question bytes (Err (fault.Totals at cause)) =
    (at.now ≡ path) × Refuses question bytes (answer.Totals cause)
AnswersBytes path question bytes (Err (fault.NoFile at name)) =
    (at.now ≡ path) × (name.now ≡ name_in question) × Refuses question bytes answer.NoFile
AnswersBytes path question bytes (Err other) = ⊥

-- a text is printed, as far as it can be written
abbrev pub Prints : List ℕ → Output → Output → Result Finding Fault → Type 0
Prints text old new (Ok finding) = (finding ≡ Good) × IsWritten old new text
Prints text old new (Err why) = (why ≡ fault.Write) × IsCutOff old new text

-- what is answered of the totals file at a path, if it can't serve
abbrev pub EndsAtFile : {A : Type 0} → List ℕ → FileFault → Result A Fault → Type 0
EndsAtFile path cause (Err (fault.File at why)) = (at.now ≡ path) × (why ≡ cause)
EndsAtFile path cause other = ⊥

-- what is answered of the totals file at a path, to the program
abbrev pub EndsAt : List ℕ → Result (Unit {0}) FileFault → Result Finding Fault → Type 0
EndsAt path (Ok u) result = result ≡ Ok Good
EndsAt path (Err cause) result = EndsAtFile path cause result

-- the file of totals that were only read was closed while an output stood like this, and thus before it was given more
abbrev pub ClosesBefore : {S B : Type 0} → FileGhosts B → FolderGhosts S → S → Output → Mirror (FileDisk B) → Type 0
ClosesBefore below folder it output totals = AreRead below.calls totals × below.closed totals.below.file
    × folder.closes it (below.calls totals.below.file) output

-- what is answered of totals that were only read: of the bytes that the one read of their file gave, which was closed
-- while an output stood like this; or why they can't be read
abbrev pub AnswersOpened : {S B : Type 0} → FileGhosts B → FolderGhosts S → S → Output → List ℕ → Question
    → Result (Mirror (FileDisk B)) FileFault → Result (Finding × List ℕ) Fault → Type 0
AnswersOpened below folder it output path question (Ok totals) result =
    ClosesBefore below folder it output totals × AnswersBytes path question totals.memory.present.reading result
AnswersOpened below folder it output path question (Err cause) result = EndsAtFile path cause result

-- what is answered of the totals file at a path
abbrev pub AnswersFile : {F B S : Type 0} → Ghosts F B → FileGhosts B → F → FolderGhosts S → S → Output → List ℕ
    → Question → Result (Finding × List ℕ) Fault → Type 0
AnswersFile {F} {B} files below them folder it output path question result =
    (opened : Result (Mirror (FileDisk B)) FileFault) × files.reads_disk them path opened
    × AnswersOpened below folder it output path question opened result

-- what is printed of an answer, by how the output stood before, and after: the answer, as far as it can be written; or
-- nothing, if there is none
abbrev pub PrintsAnswer : Result (Finding × List ℕ) Fault → Output → Output → Result Finding Fault → Type 0
PrintsAnswer (Ok found) old new (Ok finding) = (finding ≡ found.0) × IsWritten old new found.1
PrintsAnswer (Ok found) old new (Err why) = (why ≡ fault.Write) × IsCutOff old new found.1
PrintsAnswer (Err why) old new result = (result ≡ Err why) × (new ≡ old)

-- what is printed of the totals file at a path, which is closed before
abbrev pub PrintsFile : {F B S : Type 0} → Ghosts F B → FileGhosts B → F → FolderGhosts S → S → List ℕ → Question
    → Output → Output → Result Finding Fault → Type 0
PrintsFile files below them folder it path question old new result =
    (found : Result (Finding × List ℕ) Fault) × AnswersFile files below them folder it old path question found
    × PrintsAnswer found old new result
