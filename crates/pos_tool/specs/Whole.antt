-- How a file appears whole or not at all (docs/reference/tool.md, "backup").
use Rattle.std.specs.Prelude.{◌≡◌, ◌⊎◌, ◌++◌, ◌∷◌, [], ℕ, List, length, true, false, Option, Some, None, Result, Ok, ⊤}
use Rattle.std.specs.Prelude.{◌==◌, ◌||◌, ◌≢◌, Bool, Err, codes, if◌then◌else◌, nat_eq}
use Rattle.std.specs.Fs.{new_options, with_create_new, with_write}
use Rattle.std.specs.IoError.{error_kind}
use Rattle.std.specs.List.{starts_with}
use Rattle.std.specs.declared.fs.options.OpenOptions.{OpenOptions}
use Rattle.std.specs.declared.io.Error.{Error}
use Rattle.std.specs.declared.io.ErrorKind.{ErrorKind}
use Rattle.std.specs.declared.io.ErrorKind.TheVariants.{NotFound, PermissionDenied, Unsupported}
use Rattle.pos_file.specs.Calls.{Call, is_whole, sync_call, write_call}
use Rattle.pos_file.specs.Disks.{Asks}
use Rattle.pos_file.specs.declared.block_file.BlockFile.{Ghosts as FileGhosts}
use Rattle.pos_program.specs.Answers.{HasToBe, Passes}
use Rattle.pos_program.specs.TotalsDisks.{SyncsFolder}
use Rattle.pos_program.specs.declared.file_fault.FileFault.{FileFault}
use Rattle.pos_program.specs.declared.file_system.FileSystem.{Ghosts as SystemGhosts}
use Rattle.pos_tool.specs.declared.folder.Folder.{Ghosts as FolderGhosts}
use Rattle.pos_tool.specs.declared.whole.WholeFault.{WholeFault}
use Rattle.pos_tool.specs.declared.whole.WholeFault.TheVariants as fault

-- how a file is opened that is made, and isn't there
abbrev pub to_make : OpenOptions
to_make = with_create_new (with_write new_options true) true

-- what writing all bytes to a file and syncing it comes to: it is asked these two, and nothing else
abbrev pub WritesWhole : {F : Type 0} → (F → List Call) → F → F → List ℕ → Result (Unit {0}) WholeFault → Type 0
WritesWhole calls old new bytes (Ok u) =
    Asks calls old new (write_call 0 bytes (Some (length bytes)) ∷ sync_call (Some 0) ∷ [])
WritesWhole calls old new bytes (Err why) = (why ≡ fault.Unwritten)
    × (((moved : Option ℕ) × (is_whole (length bytes) moved ≡ false)
    × Asks calls old new (write_call 0 bytes moved ∷ []))
    ⊎ Asks calls old new (write_call 0 bytes (Some (length bytes)) ∷ sync_call None ∷ []))

-- a name is taken away, whatever that answers
abbrev pub Removes : {S : Type 0} → FolderGhosts S → S → S → List ℕ → Type 0
Removes folder them later path = (removed : Result (Unit {0}) Error) × folder.removes them later path removed

-- what becomes of a new file that bytes were written to: it stays open, or it is closed and removed
abbrev pub KeepsWritten : {S F : Type 0} → FolderGhosts S → FileGhosts F → S → S → List ℕ → F
    → Result (Unit {0}) WholeFault → Result F WholeFault → Type 0
KeepsWritten folder below them later part written (Ok u) result = (result ≡ Ok written) × (later ≡ them)
KeepsWritten folder below them later part written (Err why) result =
    (result ≡ Err why) × below.closed written × Removes folder them later part

-- what making a new file with these bytes comes to, if this is what opening it answered
abbrev pub WritesOpened : {S F : Type 0} → FolderGhosts S → FileGhosts F → S → S → List ℕ → Result F Error → List ℕ
    → Result F WholeFault → Type 0
WritesOpened {F = F} folder below them later part (Ok opened) bytes result = (below.calls opened ≡ [])
    × ((written : F) × (answer : Result (Unit {0}) WholeFault) × WritesWhole below.calls opened written bytes answer
    × KeepsWritten folder below them later part written answer result)
WritesOpened folder below them later part (Err cause) bytes result =
    (result ≡ Err (fault.Part cause)) × (later ≡ them)

-- what making a new file with these bytes comes to, which may be private, and is left open
abbrev pub WritesPart : {S F : Type 0} → SystemGhosts S F → FolderGhosts S → FileGhosts F → S → S → List ℕ → Bool
    → List ℕ → Result F WholeFault → Type 0
WritesPart {F = F} system folder below them later part is_private bytes result =
    (opened : Result F Error) × system.opens them to_make is_private part opened
    × WritesOpened folder below them later part opened bytes result

-- what making the name of an open file stay comes to
abbrev pub Settles : {S F : Type 0} → SystemGhosts S F → S → F → List ℕ → Result (Unit {0}) WholeFault → Type 0
Settles system them opened path result =
    (synced : Result (Unit {0}) FileFault) × SyncsFolder system them opened path synced
    × Passes (λ cause why. why ≡ fault.Unsynced cause) synced result

-- what follows an answer: at Ok this; else the fault that it is told as, and this is undone
abbrev pub Follows : (Error → WholeFault) → Type 0 → Type 0 → Result (Unit {0}) Error → Result (Unit {0}) WholeFault
    → Type 0
Follows report next undone (Ok u) result = next
Follows report next undone (Err cause) result = (result ≡ Err (report cause)) × undone

-- what follows once an open file was to get its name: that is made to stay; or the file beside it is removed
abbrev pub SettlesNamed : {S F : Type 0} → SystemGhosts S F → FolderGhosts S → S → S → F → List ℕ → List ℕ
    → Result (Unit {0}) Error → Result (Unit {0}) WholeFault → Type 0
SettlesNamed system folder them later written part path named result =
    Follows fault.Link (Settles system them written path result × (later ≡ them)) (Removes folder them later part)
    named result

-- a second name was refused as it is where a file has one name
abbrev pub has_one_name : ErrorKind → Bool
has_one_name PermissionDenied = true
has_one_name Unsupported = true
has_one_name _ = false

-- what giving an open file that is whole its name, in place of the first one, comes to
abbrev pub TakesName : {S F : Type 0} → SystemGhosts S F → FolderGhosts S → FileGhosts F → S → S → F → List ℕ → List ℕ
    → Result (Unit {0}) WholeFault → Type 0
TakesName {S} system folder below them later written part path result =
    (taken : Result (Unit {0}) Error) × (named : S)
    × folder.takes them named (below.calls written) part path taken
    × SettlesNamed system folder named later written part path taken result

-- what follows once a second name was refused: where a file has one name, it gets that in place of the first
abbrev pub EndsRefused : {S F : Type 0} → Bool → SystemGhosts S F → FolderGhosts S → FileGhosts F → S → S → F → List ℕ
    → List ℕ → Error → Result (Unit {0}) WholeFault → Type 0
EndsRefused true system folder below named later written part path cause result =
    TakesName system folder below named later written part path result
EndsRefused false system folder below named later written part path cause result =
    (result ≡ Err (fault.Link cause)) × Removes folder named later part

-- what follows once an open file that is whole was to get its name as a second one: the first is taken away, and the
-- folder is synced
abbrev pub EndsLink : {S F : Type 0} → SystemGhosts S F → FolderGhosts S → FileGhosts F → S → S → F → List ℕ → List ℕ
    → Result (Unit {0}) Error → Result (Unit {0}) WholeFault → Type 0
EndsLink system folder below named later written part path (Ok u) result =
    (removed : Result (Unit {0}) Error) × folder.removes named later part removed
    × Follows fault.Left (Settles system later written path result) ⊤ removed result
EndsLink system folder below named later written part path (Err cause) result =
    EndsRefused (has_one_name (error_kind cause)) system folder below named later written part path cause result

-- what giving an open file that is whole its name, and taking away the first one, comes to
abbrev pub LinksPart : {S F : Type 0} → SystemGhosts S F → FolderGhosts S → FileGhosts F → S → S → F → List ℕ → List ℕ
    → Result (Unit {0}) WholeFault → Type 0
LinksPart {S} system folder below them later written part path result =
    (linked : Result (Unit {0}) Error) × (named : S)
    × folder.links them named (below.calls written) part path linked
    × EndsLink system folder below named later written part path linked result

-- what comes next, after a step that did what it should; after another one nothing does
abbrev pub Then : {S : Type 0} → S → S → Result (Unit {0}) WholeFault → Type 0 → Result (Unit {0}) WholeFault → Type 0
Then them later (Ok u) next result = next
Then them later (Err why) next result = (result ≡ Err why) × (later ≡ them)

-- what is made of a new file that was written, or not; it is closed in the end
abbrev pub UsesWritten : {S F : Type 0} → FileGhosts F → S → S → (F → Type 0) → Result F WholeFault
    → Result (Unit {0}) WholeFault → Type 0
UsesWritten below them later Uses (Ok written) result = Uses written × below.closed written
UsesWritten below them later Uses (Err why) result = (result ≡ Err why) × (later ≡ them)

-- what is made of a new file beside another one, with these bytes, and from which state of the folders on
abbrev pub UsesPart : {S F : Type 0} → SystemGhosts S F → FolderGhosts S → FileGhosts F → S → S → List ℕ → Bool
    → List ℕ → (S → F → Type 0) → Result (Unit {0}) WholeFault → Type 0
UsesPart {S} {F} system folder below them later part is_private bytes Uses result =
    (answer : Result F WholeFault) × (made : S) × WritesPart system folder below them made part is_private bytes answer
    × UsesWritten below made later (Uses made) answer result

-- nothing is done for want of memory
abbrev pub LacksMemory : {S : Type 0} → S → S → Result (Unit {0}) WholeFault → Type 0
LacksMemory them later result = (result ≡ Err fault.NoMemory) × (later ≡ them)

-- What making a file with these bytes at a path comes to: want of memory; or they are written to a private file beside
-- it and synced, and then it gets its name, and its folder is synced.
abbrev pub Puts : {S F : Type 0} → SystemGhosts S F → FolderGhosts S → FileGhosts F → S → S → List ℕ → List ℕ
    → Result (Unit {0}) WholeFault → Type 0
Puts system folder below them later path bytes result = LacksMemory them later result
    ⊎ UsesPart system folder below them later (path ++ codes ".part") true bytes
    (λ made written. LinksPart system folder below made later written (path ++ codes ".part") path result) result

-- what putting an open file that is whole in the place of what has its name comes to
abbrev pub RenamesPart : {S F : Type 0} → SystemGhosts S F → FolderGhosts S → FileGhosts F → S → S → F → List ℕ
    → List ℕ → Result (Unit {0}) WholeFault → Type 0
RenamesPart {S} system folder below them later written part path result =
    (renamed : Result (Unit {0}) Error) × (named : S)
    × folder.renames them named (below.calls written) part path renamed
    × SettlesNamed system folder named later written part path renamed result

-- what checking comes to that a name is free or a file's
abbrev pub ChecksFile : {S : Type 0} → FolderGhosts S → S → List ℕ → Result (Unit {0}) WholeFault → Type 0
ChecksFile folder them path result =
    (answer : Result Bool Error) × folder.admits them path answer
    × HasToBe fault.NoFile (λ cause why. why ≡ fault.Link cause) answer result

-- the bytes of a report, or none, which a report may take the place of
abbrev pub is_report : List ℕ → Bool
is_report bytes = (length bytes == 0) || starts_with nat_eq bytes (codes "<?xml")

-- what is made of what is at the path of a report, if this is what reading it answered
abbrev pub AdmitsReport : Result (List ℕ) Error → Result (Unit {0}) WholeFault → Type 0
AdmitsReport (Ok bytes) result = result ≡ (if is_report bytes then Ok tt else Err fault.NoReport)
AdmitsReport (Err cause) (Ok u) = error_kind cause ≡ NotFound
AdmitsReport (Err cause) (Err why) = (why ≡ fault.Link cause) × (error_kind cause ≢ NotFound)

-- what checking comes to that a report may take a name
abbrev pub ChecksReport : {S F : Type 0} → SystemGhosts S F → S → List ℕ → Result (Unit {0}) WholeFault → Type 0
ChecksReport system them path result =
    (answer : Result (List ℕ) Error) × system.reads them path answer × AdmitsReport answer result

-- What making a report with these bytes at a path comes to, in place of one that may be there: want of memory; or its
-- name may be taken, it is written to the file beside it and synced, and that gets its name.
abbrev pub PutsReport : {S F : Type 0} → SystemGhosts S F → FolderGhosts S → FileGhosts F → S → S → List ℕ → List ℕ
    → Result (Unit {0}) WholeFault → Type 0
PutsReport system folder below them later path bytes result = LacksMemory them later result
    ⊎ ((free : Result (Unit {0}) WholeFault) × ChecksFile folder them path free × Then them later free
    ((old : Result (Unit {0}) WholeFault) × ChecksReport system them path old × Then them later old
    (UsesPart system folder below them later (path ++ codes ".part") false bytes
    (λ made written. RenamesPart system folder below made later written (path ++ codes ".part") path result) result)
    result) result)

-- what putting an open file that is whole in the place of another open one comes to
abbrev pub ReplacesOpen : {S F : Type 0} → SystemGhosts S F → FolderGhosts S → FileGhosts F → S → S → F → F → List ℕ
    → List ℕ → Result (Unit {0}) WholeFault → Type 0
ReplacesOpen {S} system folder below them later written held part path result =
    (replaced : Result (Unit {0}) Error) × (named : S)
    × folder.replaces them named (below.calls written) (below.calls held) part path replaced
    × SettlesNamed system folder named later written part path replaced result

-- what becomes of the second name of an open file: it loses it if no other one could take its place
abbrev pub EndsAside : {S : Type 0} → FolderGhosts S → S → S → List ℕ → Result (Unit {0}) WholeFault
    → Result (Unit {0}) WholeFault → Type 0
EndsAside folder them later old (Err (fault.Link cause)) result =
    (result ≡ Err (fault.Link cause)) × Removes folder them later old
EndsAside folder them later old answer result = (result ≡ answer) × (later ≡ them)

-- what putting another file in the place of an open one that has a second name comes to
abbrev pub TakesPlace : {S F : Type 0} → SystemGhosts S F → FolderGhosts S → FileGhosts F → S → S → F → F → List ℕ
    → List ℕ → List ℕ → Result (Unit {0}) WholeFault → Type 0
TakesPlace {S} system folder below them later written held part path old result =
    (answer : Result (Unit {0}) WholeFault) × (over : S)
    × ReplacesOpen system folder below them over written held part path answer
    × EndsAside folder over later old answer result

-- two names are taken away, one after the other
abbrev pub RemovesBoth : {S : Type 0} → FolderGhosts S → S → S → List ℕ → List ℕ → Type 0
RemovesBoth {S} folder them later one other = (mid : S) × Removes folder them mid one × Removes folder mid later other

-- what keeping an open file under a second name, and putting another one in its place, with its rights, comes to
abbrev pub SetsAside : {S F : Type 0} → SystemGhosts S F → FolderGhosts S → FileGhosts F → S → S → F → F → List ℕ
    → List ℕ → List ℕ → Result (Unit {0}) WholeFault → Type 0
SetsAside {S} system folder below them later written held part path old result =
    (linked : Result (Unit {0}) Error) × (named : S) × folder.links them named (below.calls held) path old linked
    × Follows fault.Aside ((copied : Result (Unit {0}) Error) × (alike : S)
    × folder.copies_rights named alike old part copied
    × Follows fault.Rights (TakesPlace system folder below alike later written held part path old result)
    (RemovesBoth folder alike later part old) copied result) (Removes folder named later part) linked result

-- What putting a file with these bytes in place of the open one at a path comes to: its name may be taken, they are
-- written to a private file beside it and synced, the old file gets a second name and the new one its owner and mode,
-- and the new one takes its place.
abbrev pub PutsInstead : {S F : Type 0} → SystemGhosts S F → FolderGhosts S → FileGhosts F → S → S → F → List ℕ
    → List ℕ → List ℕ → List ℕ → Result (Unit {0}) WholeFault → Type 0
PutsInstead system folder below them later held part path old bytes result =
    (free : Result (Unit {0}) WholeFault) × ChecksFile folder them path free × Then them later free
    (UsesPart system folder below them later part true bytes
    (λ made written. SetsAside system folder below made later written held part path old result) result) result

-- likewise, with the names that the files beside it get; or there is no memory for them
abbrev pub Replaces : {S F : Type 0} → SystemGhosts S F → FolderGhosts S → FileGhosts F → S → S → F → List ℕ → List ℕ
    → Result (Unit {0}) WholeFault → Type 0
Replaces system folder below them later held path bytes result = LacksMemory them later result
    ⊎ PutsInstead system folder below them later held (path ++ codes ".part") path (path ++ codes ".old") bytes result
