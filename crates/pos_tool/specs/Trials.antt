-- What trying scripts comes to, to the program (docs/reference/tool.md, "test").
use Rattle.std.specs.Prelude.{◌≡◌, ◌≢◌, ◌⊎◌, ℕ, Bool, true, false, List, Option, Some, None, Result, Ok, Err, ◌==◌}
use Rattle.std.specs.Prelude.{codes, if◌then◌else◌}
use Rattle.std.specs.Borrow.{Bor}
use Rattle.pos_disk.specs.Memory.{Memory}
use Rattle.pos_disk.specs.declared.device.Disk.{Ghosts as DiskGhosts}
use Rattle.pos_file.specs.declared.block_file.BlockFile.{Ghosts as FileGhosts}
use Rattle.pos_profile.specs.Entries.{Contents}
use Rattle.pos_program.specs.declared.file_system.FileSystem.{Ghosts as SystemGhosts}
use Rattle.pos_program.specs.declared.named_files.NamedFiles.{Ghosts}
use Rattle.pos_report.specs.declared.question.Finding.{Finding}
use Rattle.pos_report.specs.declared.question.Finding.TheVariants.{Good, Nothing}
use Rattle.pos_shell.specs.Outputs.{IsCutOff, IsWritten, Output}
use Rattle.pos_shell.specs.Paint.{painted}
use Rattle.pos_shell.specs.Runs.{GivesProfile}
use Rattle.pos_shell.specs.Trials.{TriesEach, failures, tally}
use Rattle.pos_shell.specs.Xml.{junit}
use Rattle.pos_shell.specs.declared.runs.RunFault.{RunFault}
use Rattle.pos_shell.specs.declared.trials.Trial.{Trial}
use Rattle.pos_shell.specs.declared.trials.TrialFault.{TrialFault}
use Rattle.pos_tool.specs.Names.{FindsScripts}
use Rattle.pos_tool.specs.Whole.{PutsReport}
use Rattle.pos_tool.specs.declared.fault.Fault.{Fault}
use Rattle.pos_tool.specs.declared.fault.Fault.TheVariants as fault
use Rattle.pos_tool.specs.declared.folder.Folder.{Ghosts as FolderGhosts}
use Rattle.pos_tool.specs.declared.whole.WholeFault.{WholeFault}

-- whether what is printed is painted, by the word after --color and whether the output is a terminal; a word that is no
-- choice is a fault
abbrev pub Chooses : Option (Bor (List ℕ)) → Bool → Result Bool Fault → Type 0
Chooses None is_terminal result = result ≡ Ok is_terminal
Chooses (Some word) is_terminal (Ok is_painted) =
    ((word.now ≡ codes "auto") × (is_painted ≡ is_terminal))
    ⊎ ((word.now ≡ codes "always") × (is_painted ≡ true))
    ⊎ ((word.now ≡ codes "never") × (is_painted ≡ false))
Chooses (Some word) is_terminal (Err why) = (why ≡ fault.NoColour word)
    × (word.now ≢ codes "auto") × (word.now ≢ codes "always") × (word.now ≢ codes "never")

-- what is found where so many scripts don't print what is wanted
abbrev pub trial_finding : ℕ → Finding
trial_finding failed = if failed == 0 then Good else Nothing

-- what is printed of scripts that were tried
abbrev pub tally_text : Bool → List Trial → List ℕ
tally_text is_painted trials = if is_painted then painted (tally trials) else tally trials

-- what trying scripts found is printed, as far as it can be written
abbrev pub PrintsTrials : Bool → List Trial → Output → Output → Result Finding Fault → Type 0
PrintsTrials is_painted trials old new (Ok finding) =
    (finding ≡ trial_finding (failures trials)) × IsWritten old new (tally_text is_painted trials)
PrintsTrials is_painted trials old new (Err fault.Write) = IsCutOff old new (tally_text is_painted trials)
PrintsTrials is_painted trials old new (Err why) = (why ≡ fault.NoMemory) × (new ≡ old)

-- what is answered of a report that was to be made, to the program
abbrev pub EndsReport : List ℕ → Finding → Result (Unit {0}) WholeFault → Result Finding Fault → Type 0
EndsReport path finding (Ok u) result = result ≡ Ok finding
EndsReport path finding (Err cause) (Err (fault.Whole at why)) = (at.now ≡ path) × (why ≡ cause)
EndsReport path finding (Err cause) other = ⊥

-- the report of scripts that were tried is made at a path, whole, or there was no memory
abbrev pub MakesReport : {S G : Type 0} → SystemGhosts S G → FolderGhosts S → FileGhosts G → S → S → List ℕ
    → List Trial → Finding → Result Finding Fault → Type 0
MakesReport system folder under it later path trials finding result =
    ((result ≡ Err fault.NoMemory) × (later ≡ it))
    ⊎ ((answer : Result (Unit {0}) WholeFault) × PutsReport system folder under it later path (junit trials) answer
    × EndsReport path finding answer result)

-- what follows what was printed: the report, if a path for one is given
abbrev pub Reports : {S G : Type 0} → SystemGhosts S G → FolderGhosts S → FileGhosts G → S → S
    → Option (Bor (List ℕ)) → List Trial → Result Finding Fault → Result Finding Fault → Type 0
Reports system folder under it later (Some path) trials (Ok finding) result =
    MakesReport system folder under it later path.now trials finding result
Reports system folder under it later path trials printed result = (result ≡ printed) × (later ≡ it)

-- what trying scripts found is printed, and then a report of it is made
abbrev pub WritesTrials : {S G : Type 0} → SystemGhosts S G → FolderGhosts S → FileGhosts G → S → S → Bool
    → Option (Bor (List ℕ)) → List Trial → Output → Output → Result Finding Fault → Type 0
WritesTrials system folder under it later is_painted report trials old new result = (printed : Result Finding Fault)
    × PrintsTrials is_painted trials old new printed
    × Reports system folder under it later report trials printed result

-- likewise, or a script can't be tried, and nothing is printed
abbrev pub PrintsTried : {S G : Type 0} → SystemGhosts S G → FolderGhosts S → FileGhosts G → S → S → Bool
    → Option (Bor (List ℕ)) → Result (List Trial) TrialFault → Output → Output → Result Finding Fault → Type 0
PrintsTried system folder under it later is_painted report (Ok trials) old new result =
    WritesTrials system folder under it later is_painted report trials old new result
PrintsTried system folder under it later is_painted report (Err why) old new result =
    (result ≡ Err (fault.Trial why)) × (new ≡ old) × (later ≡ it)

-- the scripts at paths are tried over a profile, and what was found is told
abbrev pub TestsOver : {S G : Type 0} → SystemGhosts S G → FolderGhosts S → FileGhosts G → S → S
    → DiskGhosts Memory → Contents → List (List ℕ) → Bool → Option (Bor (List ℕ)) → Output → Output
    → Result Finding Fault → Type 0
TestsOver system folder under it later memories contents paths is_painted report old new result =
    (tried : Result (List Trial) TrialFault) × TriesEach system it memories contents paths tried
    × PrintsTried system folder under it later is_painted report tried old new result

-- nothing is done, for this reason
abbrev pub Refuses : {S : Type 0} → Fault → S → S → Output → Output → Result Finding Fault → Type 0
Refuses why it later old new result = (result ≡ Err why) × (new ≡ old) × (later ≡ it)

-- what is done with the scripts that were found, or with none for this fault
abbrev pub TestsFound : (List (List ℕ) → Type 0) → (Fault → Type 0) → Result (List (List ℕ)) Fault → Type 0
TestsFound Tests Refused (Ok found) = Tests found
TestsFound Tests Refused (Err why) = Refused why

-- the scripts that paths stand for are tried over a profile, and what was found is told
abbrev pub TestsProfiled : {S G : Type 0} → SystemGhosts S G → FolderGhosts S → FileGhosts G → S → S
    → DiskGhosts Memory → Contents → List (Bor (List ℕ)) → Bool → Option (Bor (List ℕ)) → Output → Output
    → Result Finding Fault → Type 0
TestsProfiled system folder under it later memories contents paths is_painted report old new result =
    (found : Result (List (List ℕ)) Fault) × FindsScripts folder it paths found
    × TestsFound (λ all. TestsOver system folder under it later memories contents all is_painted report old new result)
    (λ why. Refuses why it later old new result) found

-- likewise, over what reading the profile gave
abbrev pub TestsGiven : (Contents → Type 0) → (Fault → Type 0) → Result Contents RunFault → Type 0
TestsGiven Tests Refused (Ok contents) = Tests contents
TestsGiven Tests Refused (Err why) = Refused (fault.Run why)

-- likewise, over the profile at a path, or the built-in one
abbrev pub TestsPainted : {F B S G : Type 0} → Ghosts F B → F → SystemGhosts S G → FolderGhosts S → FileGhosts G
    → S → S → DiskGhosts Memory → List (Bor (List ℕ)) → Option (Bor (List ℕ)) → Bool → Option (Bor (List ℕ))
    → Output → Output → Result Finding Fault → Type 0
TestsPainted files them system folder under it later memories paths profile is_painted report old new result =
    (given : Result Contents RunFault) × GivesProfile files them profile given
    × TestsGiven (λ contents. TestsProfiled system folder under it later memories contents paths is_painted report old
    new result) (λ why. Refuses why it later old new result) given

-- likewise, by whether what is printed is painted
abbrev pub TestsChosen : (Bool → Type 0) → (Fault → Type 0) → Result Bool Fault → Type 0
TestsChosen Tests Refused (Ok is_painted) = Tests is_painted
TestsChosen Tests Refused (Err why) = Refused why

-- What trying the scripts that paths stand for comes to.
abbrev pub EndsTest : {F B S G : Type 0} → Ghosts F B → F → SystemGhosts S G → FolderGhosts S → FileGhosts G → S → S
    → DiskGhosts Memory → Bool → List (Bor (List ℕ)) → Option (Bor (List ℕ)) → Option (Bor (List ℕ))
    → Option (Bor (List ℕ)) → Output → Output → Result Finding Fault → Type 0
EndsTest files them system folder under it later memories is_terminal paths profile report colour old new result =
    (chosen : Result Bool Fault) × Chooses colour is_terminal chosen
    × TestsChosen (λ is_painted. TestsPainted files them system folder under it later memories paths profile is_painted
    report old new result) (λ why. Refuses why it later old new result) chosen
