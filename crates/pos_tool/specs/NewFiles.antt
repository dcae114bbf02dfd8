-- What salvaging and loading come to (docs/reference/tool.md, "salvage" and "load").
use Rattle.std.specs.Prelude.{Err, List, Ok, Result, ℕ, ⊤, ◌≡◌}
use Rattle.std.specs.declared.io.Error.{Error}
use Rattle.pos_file.specs.declared.block_file.BlockFile.{Ghosts as FileGhosts}
use Rattle.pos_file.specs.declared.file_disk.FileDisk.{FileDisk}
use Rattle.pos_mirror.specs.Mirror.{Mirror}
use Rattle.pos_program.specs.TotalsDisks.{ReadsTotals}
use Rattle.pos_program.specs.declared.file_fault.FileFault.{FileFault}
use Rattle.pos_program.specs.declared.file_fault.FileFault.TheVariants as file
use Rattle.pos_program.specs.declared.file_system.FileSystem.{Ghosts as SystemGhosts}
use Rattle.pos_report.specs.Load.{IsLoaded}
use Rattle.pos_report.specs.Salvage.{IsSalvaged, IsUnsalvaged}
use Rattle.pos_report.specs.declared.load.LoadFault.{LoadFault}
use Rattle.pos_report.specs.declared.question.Finding.{Finding}
use Rattle.pos_report.specs.declared.salvage.Salvaged.{Salvaged}
use Rattle.pos_survey.specs.declared.fault.SurveyFault.{SurveyFault}
use Rattle.pos_tool.specs.Copies.{EndsCopy, PutsNew}
use Rattle.pos_shell.specs.Outputs.{Output}
use Rattle.pos_tool.specs.Surveys.{ClosesBefore, EndsAtFile, Prints}
use Rattle.pos_tool.specs.Whole.{Puts}
use Rattle.pos_tool.specs.declared.fault.Fault.{Fault}
use Rattle.pos_tool.specs.declared.fault.Fault.TheVariants as fault
use Rattle.pos_tool.specs.declared.folder.Folder.{Ghosts as FolderGhosts}
use Rattle.pos_tool.specs.declared.whole.WholeFault.{WholeFault}

-- what is printed after a file was to be made: what was lost, if it was made
abbrev pub PrintsLost : List ℕ → List ℕ → Result (Unit {0}) WholeFault → Output → Output → Result Finding Fault → Type 0
PrintsLost path lost (Ok u) old new result = Prints lost old new result
PrintsLost path lost (Err cause) old new result = EndsCopy path (Err cause) result × (new ≡ old)

-- what can be had of damaged bytes
abbrev pub MakesSalvage : List ℕ → Result Salvaged SurveyFault → Type 0
MakesSalvage bytes (Ok made) = IsSalvaged bytes made.bytes.items made.lost.items
MakesSalvage bytes (Err cause) = IsUnsalvaged bytes cause

-- a file is made with the bytes that were salvaged, and what was lost is printed
abbrev pub PutsSalvaged : {S F : Type 0} → SystemGhosts S F → FolderGhosts S → FileGhosts F → S → S → List ℕ → Salvaged
    → Output → Output → Result Finding Fault → Type 0
PutsSalvaged system folder below them later to made old new result =
    (answer : Result (Unit {0}) WholeFault) × Puts system folder below them later to made.bytes.items answer
    × PrintsLost to made.lost.items answer old new result

-- what is answered of damaged bytes at a path of which nothing can be had
abbrev pub EndsUnsalvaged : List ℕ → SurveyFault → Result Finding Fault → Type 0
EndsUnsalvaged path cause (Err (fault.Unsalvaged at why)) = (at.now ≡ path) × (why ≡ cause)
EndsUnsalvaged path cause other = ⊥

-- what becomes of what was salvaged, or of damaged bytes of which nothing can be had
abbrev pub PutsWhatIsLeft : {S F : Type 0} → SystemGhosts S F → FolderGhosts S → FileGhosts F → S → S → List ℕ
    → List ℕ → Result Salvaged SurveyFault → Output → Output → Result Finding Fault → Type 0
PutsWhatIsLeft system folder below them later from to (Ok made) old new result =
    PutsSalvaged system folder below them later to made old new result
PutsWhatIsLeft system folder below them later from to (Err cause) old new result =
    EndsUnsalvaged from cause result × (new ≡ old) × (later ≡ them)

-- what is made of damaged bytes: a file with the bytes that were salvaged
abbrev pub SalvagesBytes : {S F : Type 0} → SystemGhosts S F → FolderGhosts S → FileGhosts F → S → S → List ℕ → List ℕ
    → List ℕ → Output → Output → Result Finding Fault → Type 0
SalvagesBytes system folder below them later from to bytes old new result =
    (made : Result Salvaged SurveyFault) × MakesSalvage bytes made
    × PutsWhatIsLeft system folder below them later from to made old new result

-- what is made of damaged totals that were only read, whose file was closed before; or why they can't be read
abbrev pub SalvagesOpened : {S F : Type 0} → SystemGhosts S F → FolderGhosts S → FileGhosts F → S → S → List ℕ → List ℕ
    → Result (Mirror (FileDisk F)) FileFault → Output → Output → Result Finding Fault → Type 0
SalvagesOpened system folder below them later from to (Ok totals) old new result =
    ClosesBefore below folder them old totals
    × SalvagesBytes system folder below them later from to totals.memory.present.reading old new result
SalvagesOpened system folder below them later from to (Err cause) old new result =
    EndsAtFile from cause result × (new ≡ old) × (later ≡ them)

-- What salvaging the totals file at a path comes to.
abbrev pub Salvages : {S F : Type 0} → SystemGhosts S F → FolderGhosts S → FileGhosts F → S → S → List ℕ → List ℕ
    → Output → Output → Result Finding Fault → Type 0
Salvages {F = F} system folder below them later from to old new result =
    (opened : Result (Mirror (FileDisk F)) FileFault) × ReadsTotals system below them from opened
    × SalvagesOpened system folder below them later from to opened old new result

-- what is answered of the text at a path that isn't loaded
abbrev pub EndsUnloaded : List ℕ → LoadFault → Result Finding Fault → Type 0
EndsUnloaded path cause (Err (fault.Load at why)) = (at.now ≡ path) × (why ≡ cause)
EndsUnloaded path cause other = ⊥

-- the bytes of sound totals of which a dump prints a text, if some were made
abbrev pub MakesLoad : List ℕ → Result (List ℕ) LoadFault → Type 0
MakesLoad text (Ok bytes) = IsLoaded text bytes
MakesLoad text (Err cause) = ⊤

-- what becomes of bytes that were made of the text at a path, or of one of which none were made
abbrev pub PutsLoaded : {S F : Type 0} → SystemGhosts S F → FolderGhosts S → FileGhosts F → S → S → List ℕ → List ℕ
    → Result (List ℕ) LoadFault → Result Finding Fault → Type 0
PutsLoaded system folder below them later from to (Ok bytes) result =
    PutsNew system folder below them later to bytes result
PutsLoaded system folder below them later from to (Err cause) result = EndsUnloaded from cause result × (later ≡ them)

-- what is made of a text: a file with bytes of which it is a dump
abbrev pub LoadsText : {S F : Type 0} → SystemGhosts S F → FolderGhosts S → FileGhosts F → S → S → List ℕ → List ℕ
    → List ℕ → Result Finding Fault → Type 0
LoadsText system folder below them later from to text result =
    (made : Result (List ℕ) LoadFault) × MakesLoad text made
    × PutsLoaded system folder below them later from to made result

-- what is made of the text at a path, or why it can't be read
abbrev pub LoadsRead : {S F : Type 0} → SystemGhosts S F → FolderGhosts S → FileGhosts F → S → S → List ℕ → List ℕ
    → Result (List ℕ) Error → Result Finding Fault → Type 0
LoadsRead system folder below them later from to (Ok text) result =
    LoadsText system folder below them later from to text result
LoadsRead system folder below them later from to (Err cause) result =
    EndsAtFile from (file.Unreadable cause) result × (later ≡ them)

-- What loading the text at a path comes to.
abbrev pub Loads : {S F : Type 0} → SystemGhosts S F → FolderGhosts S → FileGhosts F → S → S → List ℕ → List ℕ
    → Result Finding Fault → Type 0
Loads system folder below them later from to result =
    (answer : Result (List ℕ) Error) × system.reads them from answer
    × LoadsRead system folder below them later from to answer result
