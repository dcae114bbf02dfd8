-- How the disk of the totals in a file is opened (docs/reference/console.md, "The program").
use Rattle.std.specs.Prelude.{◌≡◌, ◌∷◌, [], ℕ, List, Bool, true, false, max, min, nat_lt, Option, Some, Result, Ok}
use Rattle.std.specs.Prelude.{◌⊎◌, ◌-◌, Err, length, replicate, unwrap_or}
use Rattle.std.specs.Bool.{MatchBool}
use Rattle.std.specs.Fs.{new_options, with_create, with_read, with_write}
use Rattle.std.specs.Path.{cur_dir, path_parent}
use Rattle.std.specs.declared.fs.options.OpenOptions.{OpenOptions}
use Rattle.std.specs.declared.io.Error.{Error}
use Rattle.pos_disk.specs.Memory.{fresh}
use Rattle.pos_file.specs.Calls.{Call, lock_call, measure_call, read_call, share_call, sync_call}
use Rattle.pos_file.specs.Disks.{Lengthens, OpensBy, file_disks}
use Rattle.pos_file.specs.declared.block_file.BlockFile.{Ghosts as FileGhosts}
use Rattle.pos_file.specs.declared.fault.DiskFileFault.{DiskFileFault}
use Rattle.pos_file.specs.declared.fault.DiskFileFault.TheVariants as disk
use Rattle.pos_file.specs.declared.file_disk.FileDisk.{FileDisk}
use Rattle.pos_image.specs.Layout.{disk_size}
use Rattle.pos_mirror.specs.Calls.{Opens as MirrorOpens}
use Rattle.pos_mirror.specs.Mirror.{Mirror, mirror_of}
use Rattle.pos_mirror.specs.declared.mirror.MirrorFault.{MirrorFault}
use Rattle.pos_mirror.specs.declared.mirror.MirrorFault.TheVariants as mirror
use Rattle.pos_program.specs.Answers.{AnswersFor, HasToBe, Passes}
use Rattle.pos_program.specs.Faults.{ReportsOpen, ReportsUnreadable}
use Rattle.pos_program.specs.Locks.{ReportsUnlocked}
use Rattle.pos_program.specs.declared.file_fault.FileFault.{FileFault}
use Rattle.pos_program.specs.declared.file_fault.FileFault.TheVariants as file
use Rattle.pos_program.specs.declared.file_system.FileSystem.{Ghosts as SystemGhosts}

-- how a file is opened that is only read
abbrev pub to_read : OpenOptions
to_read = with_read new_options true

-- how a file is opened that is read and written, and made if it isn't there and may be made
abbrev pub to_write : Bool → OpenOptions
to_write may_make = with_create (with_write to_read true) may_make

-- what opening a file comes to, if a fault of the system is told so; one that it makes is private
abbrev pub OpensFile : {S F : Type 0} → SystemGhosts S F → (Error → FileFault → Type 0) → S → OpenOptions → List ℕ
    → Result F FileFault → Type 0
OpensFile {F = F} system Tells them how path result =
    (answer : Result F Error) × system.opens them how true path answer × Passes Tells answer result

-- the folder of a path, or the present one
abbrev pub folder_or_here : Option (List ℕ) → List ℕ
folder_or_here (Some (byte ∷ bytes)) = byte ∷ bytes
folder_or_here other = cur_dir

-- the folder in which the file at a path lies
abbrev pub folder_of : List ℕ → List ℕ
folder_of path = folder_or_here (path_parent path)

-- what syncing a folder comes to, while this file in it is open
abbrev pub SyncsAt : {S F : Type 0} → SystemGhosts S F → S → F → List ℕ → Result (Unit {0}) FileFault → Type 0
SyncsAt system them opened folder result = (answer : Result (Unit {0}) Error) × system.syncs them opened folder answer
    × Passes (λ cause why. why ≡ file.Folder cause) answer result

-- what making the entry stay comes to of the file that a path is for, by where a link there leads
abbrev pub SyncsOwn : {S F : Type 0} → SystemGhosts S F → S → F → List ℕ → Result (Option (List ℕ)) Error
    → Result (Unit {0}) FileFault → Type 0
SyncsOwn system them opened path (Ok target) result =
    SyncsAt system them opened (folder_of (unwrap_or target path)) result
SyncsOwn system them opened path (Err cause) result = result ≡ Err (file.Folder cause)

-- what making the entry of an open file stay comes to: its folder is synced; for a link, that of the file it leads to
abbrev pub SyncsFolder : {S F : Type 0} → SystemGhosts S F → S → F → List ℕ → Result (Unit {0}) FileFault → Type 0
SyncsFolder system them opened path result = (led : Result (Option (List ℕ)) Error)
    × system.leads them path led × SyncsOwn system them opened path led result

-- why a file can't serve as a disk
abbrev pub ReportsDisk : DiskFileFault → FileFault → Type 0
ReportsDisk disk.InUse result = result ≡ file.InUse
ReportsDisk (disk.Lock cause) result = ReportsUnlocked cause result
ReportsDisk (disk.Measure cause) result = result ≡ file.Measure cause
ReportsDisk (disk.Lengthen cause) result = result ≡ file.Lengthen cause
ReportsDisk (disk.Sync cause) result = result ≡ file.Sync cause

-- why a file can't serve as a disk; as the refusal left it, the file was closed
abbrev pub ClosesRefused : {F : Type 0} → FileGhosts F → DiskFileFault × F → FileFault → Type 0
ClosesRefused below refusal why = ReportsDisk refusal.0 why × below.closed refusal.1

-- what opening a file as a disk comes to, with this call for a lock
abbrev pub OpensDisk : {F : Type 0} → (Option ℕ → Call) → FileGhosts F → F → Result (FileDisk F) FileFault → Type 0
OpensDisk {F} lock below them result =
    (answer : Result (FileDisk F) (DiskFileFault × F)) × OpensBy lock below.calls them answer
    × Passes (ClosesRefused below) answer result

-- what lengthening a disk to that of totals comes to: want of memory, or zeros are written behind its end
abbrev pub LengthensDisk : {F : Type 0} → FileGhosts F → FileDisk F → Result (FileDisk F) FileFault → Type 0
LengthensDisk {F} below old result = ((result ≡ Err file.NoMemory) × below.closed old.file)
    ⊎ ((answer : Result (FileDisk F) (DiskFileFault × F))
    × Lengthens below.calls old (replicate (disk_size - old.size) 0) answer
    × Passes (ClosesRefused below) answer result)

-- why a disk can't be mirrored
abbrev pub ReportsMirror : MirrorFault → FileFault → Type 0
ReportsMirror mirror.NoMemory result = result ≡ file.NoMemory
ReportsMirror mirror.Sync result = result ≡ file.NotSynced
ReportsMirror mirror.Read result = result ≡ file.NotRead

-- why a disk in a file can't be mirrored; as the refusal left it, the file was closed
abbrev pub ClosesUnmirrored : {F : Type 0} → FileGhosts F → MirrorFault × FileDisk F → FileFault → Type 0
ClosesUnmirrored below refusal why = ReportsMirror refusal.0 why × below.closed refusal.1.file

-- what mirroring a disk of totals comes to
abbrev pub MirrorsDisk : {F : Type 0} → FileGhosts F → FileDisk F → Result (Mirror (FileDisk F)) FileFault → Type 0
MirrorsDisk {F} below disk result =
    (answer : Result (Mirror (FileDisk F)) (MirrorFault × FileDisk F))
    × MirrorOpens (file_disks below.calls) disk (min disk.size disk_size) answer
    × Passes (ClosesUnmirrored below) answer result

-- a mirror that was asked nothing yet: it has the bytes that were read, and is at rest
abbrev pub IsNewMirror : {D : Type 0} → Mirror D → Type 0
IsNewMirror totals = totals ≡ mirror_of (fresh totals.memory.present.reading) totals.below 0 false

-- the disk is as long as it was, and as one of totals is at least
abbrev pub IsLongEnough : {F : Type 0} → FileDisk F → FileDisk F → Type 0
IsLongEnough old new = new.size ≡ max old.size disk_size

-- what is answered for a disk once this was done; or why it wasn't, and then the disk's file was closed as it was
abbrev pub AnswersOrCloses : {F B : Type 0} → FileGhosts F → FileDisk F → (Result B FileFault → Type 0)
    → Result (Unit {0}) FileFault → Result B FileFault → Type 0
AnswersOrCloses below disk Answers (Ok u) result = Answers result
AnswersOrCloses below disk Answers (Err why) result = (result ≡ Err why) × below.closed disk.file

-- a shorter disk is lengthened to the length of one of totals; its folder was synced while it was as short as before
abbrev pub MakesLong : {S F : Type 0} → SystemGhosts S F → FileGhosts F → S → List ℕ → FileDisk F
    → Result (FileDisk F) FileFault → Type 0
MakesLong system below them path old result =
    MatchBool (nat_lt old.size disk_size)
    ((synced : Result (Unit {0}) FileFault) × SyncsFolder system them old.file path synced
    × AnswersOrCloses below old (LengthensDisk below old) synced result)
    (result ≡ Ok old)

-- what checking comes to that the file at a path is this open one: if it isn't, another program uses the path
abbrev pub ChecksName : {S F : Type 0} → SystemGhosts S F → S → F → List ℕ → Result (Unit {0}) FileFault → Type 0
ChecksName system them opened path result =
    (answer : Result Bool Error) × system.names them opened path answer × HasToBe file.InUse ReportsOpen answer result

-- a file is opened to be read and written, locked for this program alone, and still the one at its path
abbrev pub LocksTotals : {S F : Type 0} → SystemGhosts S F → FileGhosts F → S → Bool → List ℕ
    → Result (FileDisk F) FileFault → Type 0
LocksTotals {F = F} system below them may_make path result =
    (opened : Result F FileFault) × OpensFile system ReportsOpen them (to_write may_make) path opened
    × AnswersFor (λ file answer. (disk : Result (FileDisk F) FileFault) × OpensDisk lock_call below file disk
    × AnswersFor (λ locked last. (named : Result (Unit {0}) FileFault) × ChecksName system them locked.file path named
    × AnswersOrCloses below locked (λ passed. passed ≡ Ok locked) named last) disk answer) opened result

-- opening the totals in a file that is there, to be read and written
abbrev pub OpensTotals : {S F : Type 0} → SystemGhosts S F → FileGhosts F → S → List ℕ
    → Result (Mirror (FileDisk F)) FileFault → Type 0
OpensTotals {F = F} system below them path result =
    (locked : Result (FileDisk F) FileFault) × LocksTotals system below them false path locked
    × AnswersFor (MirrorsDisk below) locked result

-- opening the totals in a file that is there, to be read alone
abbrev pub ReadsTotals : {S F : Type 0} → SystemGhosts S F → FileGhosts F → S → List ℕ
    → Result (Mirror (FileDisk F)) FileFault → Type 0
ReadsTotals {F = F} system below them path result =
    (opened : Result F FileFault) × OpensFile system ReportsUnreadable them to_read path opened
    × AnswersFor (λ file answer. (disk : Result (FileDisk F) FileFault) × OpensDisk share_call below file disk
    × AnswersFor (MirrorsDisk below) disk answer) opened result

-- a disk of a file is made long enough, and mirrored
abbrev pub MirrorsLong : {S F : Type 0} → SystemGhosts S F → FileGhosts F → S → List ℕ → FileDisk F
    → Result (Mirror (FileDisk F)) FileFault → Type 0
MirrorsLong {F = F} system below them path disk result =
    (long : Result (FileDisk F) FileFault) × MakesLong system below them path disk long
    × AnswersFor (MirrorsDisk below) long result

-- opening the totals in a file, which is made if it isn't there, and lengthened if it is too short
abbrev pub MakesTotals : {S F : Type 0} → SystemGhosts S F → FileGhosts F → S → List ℕ
    → Result (Mirror (FileDisk F)) FileFault → Type 0
MakesTotals {F = F} system below them path result =
    (locked : Result (FileDisk F) FileFault) × LocksTotals system below them true path locked
    × AnswersFor (MirrorsLong system below them path) locked result

-- Totals in a file that was asked for a lock for reading, its length, a sync, and then its first bytes, as many as a
-- disk of totals has or all of a shorter file; and was asked nothing else. They show the bytes that this read gave.
pub record AreRead {F : Type 0} (calls : F → List Call) (totals : Mirror (FileDisk F)) : Type 0 where
  pub size : ℕ
  pub synced : ℕ
  pub asked : calls totals.below.file ≡ share_call (Some 1) ∷ measure_call (Some size) ∷ sync_call (Some synced)
      ∷ read_call 0 totals.memory.present.reading (Some (length totals.memory.present.reading)) ∷ []
  pub as_long : length totals.memory.present.reading ≡ min size disk_size
  pub new : IsNewMirror totals
