-- What copying totals files comes to (docs/reference/tool.md, "backup" and "restore").
use Rattle.std.specs.Prelude.{◌≡◌, ◌≢◌, ◌++◌, ◌∷◌, [], ℕ, List, length, Bool, true, false, Option, Some, None}
use Rattle.std.specs.Prelude.{All, Err, Ok, Result, Vec, flat_map, ◌<◌, ◌⊎◌}
use Rattle.pos_file.specs.Calls.{Call, read_call}
use Rattle.pos_file.specs.Disks.{Asks}
use Rattle.pos_file.specs.declared.block_file.BlockFile.{Ghosts as FileGhosts}
use Rattle.pos_file.specs.declared.file_disk.FileDisk.{FileDisk}
use Rattle.pos_image.specs.Layout.{disk_size}
use Rattle.pos_mirror.specs.Mirror.{Mirror}
use Rattle.pos_program.specs.Answers.{AnswersFor}
use Rattle.pos_program.specs.Faults.{ReportsUnreadable}
use Rattle.pos_program.specs.TotalsDisks.{AreRead, LocksTotals, OpensFile, ReadsTotals, to_read}
use Rattle.pos_program.specs.declared.file_fault.FileFault.{FileFault}
use Rattle.pos_program.specs.declared.file_fault.FileFault.TheVariants as file
use Rattle.pos_program.specs.declared.file_system.FileSystem.{Ghosts as SystemGhosts}
use Rattle.pos_survey.specs.Damages.{Breaks}
use Rattle.pos_survey.specs.Descriptions.{Describes}
use Rattle.pos_survey.specs.declared.fault.SurveyFault.{SurveyFault}
use Rattle.pos_survey.specs.declared.survey.Survey.{Survey}
use Rattle.pos_tool.specs.Surveys.{EndsAtFile}
use Rattle.pos_tool.specs.Whole.{Puts, Replaces}
use Rattle.pos_tool.specs.declared.fault.Fault.{Fault}
use Rattle.pos_tool.specs.declared.fault.Fault.TheVariants as fault
use Rattle.pos_tool.specs.declared.folder.Folder.{Ghosts as FolderGhosts}
use Rattle.pos_report.specs.declared.question.Finding.{Finding}
use Rattle.pos_report.specs.declared.question.Finding.TheVariants.{Good}
use Rattle.pos_tool.specs.declared.whole.WholeFault.{WholeFault}

-- one read from the start of a file that gave all of these bytes
abbrev pub front_read : List ℕ → Call
front_read bytes = read_call 0 bytes (Some disk_size)

-- a file was asked for its first bytes, and gave these, as many as totals have
abbrev pub ReadsFront : {F : Type 0} → (F → List Call) → F → F → List ℕ → Type 0
ReadsFront calls old new bytes = Asks calls old new (front_read bytes ∷ []) × (length bytes ≡ disk_size)

-- two readings of the first bytes of a file, one right after the other, which gave these
abbrev pub turn_of : List ℕ × List ℕ → List Call
turn_of gave = front_read gave.0 ∷ front_read gave.1 ∷ []

-- so many times two readings of the first bytes of a file, which never gave the same
pub record AreTurns (asked : List Call) (count : ℕ) : Type 0 where
  pub gave : List (List ℕ × List ℕ)
  pub made : asked ≡ flat_map turn_of gave
  pub differ : All (λ turn. turn.0 ≢ turn.1) gave
  pub as_often : length gave ≡ count

-- bytes that were given, or not, as a list
abbrev pub lent : {A : Type 0} → Option (Vec ℕ A) → Option (List ℕ)
lent None = None
lent (Some bytes) = Some bytes.items

-- a file was read twice: these are the bytes if both readings gave the same, as many as totals have
abbrev pub ReadsTwice : {F : Type 0} → (F → List Call) → F → F → Option (List ℕ) → Type 0
ReadsTwice calls old new (Some bytes) = Asks calls old new (turn_of (bytes, bytes)) × (length bytes ≡ disk_size)
ReadsTwice calls old new None =
    (one : List ℕ) × (other : List ℕ) × (one ≢ other) × Asks calls old new (turn_of (one, other))

-- why the bytes of a file aren't read, by its calls before and after: want of memory, or its last call
abbrev pub IsUnread : List Call → List Call → FileFault → Type 0
IsUnread old new file.NoMemory = new ≡ old
IsUnread old new file.Short = (bytes : List ℕ) × (count : ℕ) × (count ≢ disk_size)
    × (new ≡ old ++ read_call 0 bytes (Some count) ∷ [])
IsUnread old new file.NotRead = (bytes : List ℕ) × (new ≡ old ++ read_call 0 bytes None ∷ [])
IsUnread old new other = ⊥

-- why they aren't read twice: neither time, or not once more
abbrev pub IsUnreadTwice : List Call → List Call → FileFault → Type 0
IsUnreadTwice old new why =
    IsUnread old new why ⊎ ((bytes : List ℕ) × IsUnread (old ++ front_read bytes ∷ []) new why)

-- What reading the bytes of a file that may be written meanwhile comes to: it is read twice until both readings give
-- the same, at most 1,000 times.
abbrev pub ReadsSteady : {F : Type 0} → (F → List Call) → F → F → Result (List ℕ) FileFault → Type 0
ReadsSteady calls old new (Ok bytes) = (before : List Call) × (count : ℕ) × AreTurns before count × (count < 1_000)
    × Asks calls old new (before ++ turn_of (bytes, bytes)) × (length bytes ≡ disk_size)
ReadsSteady calls old new (Err why) =
    ((why ≡ file.Unsteady) × ((asked : List Call) × AreTurns asked 1_000 × Asks calls old new asked))
    ⊎ ((before : List Call) × (count : ℕ) × AreTurns before count × (count < 1_000)
    × IsUnreadTwice (calls old ++ before) (calls new) why)

-- what reading the bytes of an open file comes to, which wasn't asked anything yet, and was closed then
abbrev pub ReadsOpened : {F : Type 0} → FileGhosts F → F → Result (List ℕ) FileFault → Type 0
ReadsOpened {F} below opened result =
    (below.calls opened ≡ []) × ((after : F) × ReadsSteady below.calls opened after result × below.closed after)

-- what reading the totals file at a path comes to, which a till may be writing: it is opened to be read alone
abbrev pub TakesSnapshot : {S F : Type 0} → SystemGhosts S F → FileGhosts F → S → List ℕ
    → Result (List ℕ) FileFault → Type 0
TakesSnapshot {F = F} system below them path result =
    (opened : Result F FileFault) × OpensFile system ReportsUnreadable them to_read path opened
    × AnswersFor (ReadsOpened below) opened result

-- whether bytes are those of sound totals: a survey tells what they hold, or which rule they break
abbrev pub ChecksSound : List ℕ → Result (Unit {0}) SurveyFault → Type 0
ChecksSound bytes (Ok u) = (survey : Survey) × Describes bytes survey
ChecksSound bytes (Err cause) = Breaks bytes cause

-- what is answered of a file that was to be made, to the program
abbrev pub EndsCopy : List ℕ → Result (Unit {0}) WholeFault → Result Finding Fault → Type 0
EndsCopy path (Ok u) result = result ≡ Ok Good
EndsCopy path (Err cause) (Err (fault.Whole at why)) = (at.now ≡ path) × (why ≡ cause)
EndsCopy path (Err cause) other = ⊥

-- what is answered of the bytes of the totals file at a path, if they aren't sound
abbrev pub EndsUnsound : List ℕ → SurveyFault → Result Finding Fault → Type 0
EndsUnsound path cause (Err (fault.Totals at why)) = (at.now ≡ path) × (why ≡ cause)
EndsUnsound path cause other = ⊥

-- a file with these bytes is made at a path where none is
abbrev pub PutsNew : {S F : Type 0} → SystemGhosts S F → FolderGhosts S → FileGhosts F → S → S → List ℕ → List ℕ
    → Result Finding Fault → Type 0
PutsNew system folder below them later path bytes result =
    (answer : Result (Unit {0}) WholeFault) × Puts system folder below them later path bytes answer
    × EndsCopy path answer result

-- what becomes of the bytes of the totals file at a path, by whether they are sound
abbrev pub CopiesSound : List ℕ → Type 0 → Type 0 → Result (Unit {0}) SurveyFault → Result Finding Fault → Type 0
CopiesSound from copies keeps (Ok u) result = copies
CopiesSound from copies keeps (Err cause) result = EndsUnsound from cause result × keeps

-- a file with these bytes takes the place of the one at a path, which was opened and locked for this program alone, was
-- open when it lost its name, and was closed without a further call
abbrev pub PutsOver : {S F : Type 0} → SystemGhosts S F → FolderGhosts S → FileGhosts F → S → S → List ℕ → List ℕ
    → Result (FileDisk F) FileFault → Result Finding Fault → Type 0
PutsOver system folder below them later path bytes (Ok held) result =
    (answer : Result (Unit {0}) WholeFault) × Replaces system folder below them later held.file path bytes answer
    × EndsCopy path answer result × below.closed held.file
PutsOver system folder below them later path bytes (Err cause) result =
    EndsAtFile path cause result × (later ≡ them)

-- a file with these bytes is put at a path
abbrev pub PutsBack : {S F : Type 0} → SystemGhosts S F → FolderGhosts S → FileGhosts F → S → S → List ℕ → List ℕ
    → Bool → Result Finding Fault → Type 0
PutsBack system folder below them later path bytes false result =
    PutsNew system folder below them later path bytes result
PutsBack {F = F} system folder below them later path bytes true result =
    (held : Result (FileDisk F) FileFault) × LocksTotals system below them false path held
    × PutsOver system folder below them later path bytes held result

-- what putting the bytes of the totals file at one path to another comes to: they are sound, and the file has them
abbrev pub CopiesTo : {S F : Type 0} → SystemGhosts S F → FolderGhosts S → FileGhosts F → S → S → List ℕ → List ℕ
    → Bool → List ℕ → Result Finding Fault → Type 0
CopiesTo system folder below them later from to replaces bytes result =
    (sound : Result (Unit {0}) SurveyFault) × ChecksSound bytes sound
    × CopiesSound from (PutsBack system folder below them later to bytes replaces result) (later ≡ them) sound result

-- what becomes of the bytes of a totals file, if they could be read
abbrev pub CopiesTaken : {S F : Type 0} → SystemGhosts S F → FolderGhosts S → FileGhosts F → S → S → List ℕ → List ℕ
    → Result (List ℕ) FileFault → Result Finding Fault → Type 0
CopiesTaken system folder below them later from to (Ok bytes) result =
    CopiesTo system folder below them later from to false bytes result
CopiesTaken system folder below them later from to (Err cause) result = EndsAtFile from cause result × (later ≡ them)

-- What a backup comes to: the bytes that two readings of the source gave, one right after the other, are those of sound
-- totals, and a new file has them.
abbrev pub BacksUp : {S F : Type 0} → SystemGhosts S F → FolderGhosts S → FileGhosts F → S → S → List ℕ → List ℕ
    → Result Finding Fault → Type 0
BacksUp system folder below them later from to result =
    (taken : Result (List ℕ) FileFault) × TakesSnapshot system below them from taken
    × CopiesTaken system folder below them later from to taken result

-- what becomes of totals that were only read, and whose file was closed then
abbrev pub RestoresRead : {S F : Type 0} → SystemGhosts S F → FolderGhosts S → FileGhosts F → S → S → List ℕ → List ℕ
    → Bool → Result (Mirror (FileDisk F)) FileFault → Result Finding Fault → Type 0
RestoresRead system folder below them later from to replaces (Ok totals) result =
    AreRead below.calls totals × below.closed totals.below.file
    × CopiesTo system folder below them later from to replaces totals.memory.present.reading result
RestoresRead system folder below them later from to replaces (Err cause) result =
    EndsAtFile from cause result × (later ≡ them)

-- What putting a copy back comes to: the bytes that were read of it are those of sound totals, and the file has them.
abbrev pub Restores : {S F : Type 0} → SystemGhosts S F → FolderGhosts S → FileGhosts F → S → S → List ℕ → List ℕ
    → Bool → Result Finding Fault → Type 0
Restores {F = F} system folder below them later from to replaces result =
    (opened : Result (Mirror (FileDisk F)) FileFault) × ReadsTotals system below them from opened
    × RestoresRead system folder below them later from to replaces opened result
