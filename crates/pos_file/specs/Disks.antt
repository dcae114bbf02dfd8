-- What a disk in a file asks of it.
use Rattle.std.specs.Prelude.{◌≡◌, ◌+◌, ◌++◌, ℕ, List, [], ◌∷◌, false, length, Option, Some, None, Result, Ok, Err}
use Rattle.std.specs.Bool.{MatchBool}
use Rattle.std.specs.declared.fs.locks.TryLockError.{TryLockError}
use Rattle.pos_disk.specs.State.{Answer}
use Rattle.pos_disk.specs.Unkept.{is_fault, unknown_state}
use Rattle.pos_disk.specs.declared.device.Disk.{Ghosts}
use Rattle.pos_file.specs.Answers.{answer_of, lock_fault, synced_of}
use Rattle.pos_file.specs.Calls.{Call, is_whole, lock_call, measure_call, read_call, share_call, sync_call, write_call}
use Rattle.pos_file.specs.declared.fault.DiskFileFault.{DiskFileFault}
use Rattle.pos_file.specs.declared.fault.DiskFileFault.TheVariants as fault
use Rattle.pos_file.specs.declared.file_disk.FileDisk.{FileDisk}

-- the file was asked these once more, in this order
abbrev pub Asks : {F : Type 0} → (F → List Call) → F → F → List Call → Type 0
Asks calls old new more = calls new ≡ calls old ++ more

-- after a sync that failed a disk answers a fault, and asks nothing
abbrev pub AsksNothing : {F : Type 0} → FileDisk F → FileDisk F → Answer → Type 0
AsksNothing old new answer = (answer ≡ Err record {}) × (new ≡ old)

-- a read of a disk in a file is one read of the file, with the same place and buffer
abbrev pub FileReads : {F : Type 0} → (F → List Call) → FileDisk F → FileDisk F → ℕ → List ℕ → List ℕ → Answer
    → Type 0
FileReads calls old new at before after answer =
    MatchBool old.has_failed (AsksNothing old new answer × (after ≡ before))
    ((moved : Option ℕ) × Asks calls old.file new.file (read_call at after moved ∷ [])
    × (new ≡ record old { file = new.file }) × (answer ≡ answer_of (length after) moved))

-- a write of it is one write of the file, with the same place and bytes
abbrev pub FileWrites : {F : Type 0} → (F → List Call) → FileDisk F → FileDisk F → ℕ → List ℕ → Answer → Type 0
FileWrites calls old new at bytes answer =
    MatchBool old.has_failed (AsksNothing old new answer)
    ((moved : Option ℕ) × Asks calls old.file new.file (write_call at bytes moved ∷ [])
    × (new ≡ record old { file = new.file }) × (answer ≡ answer_of (length bytes) moved))

-- a sync of it is one sync of the file; after one that failed the disk has failed for good
abbrev pub FileSyncs : {F : Type 0} → (F → List Call) → FileDisk F → FileDisk F → Answer → Type 0
FileSyncs calls old new answer =
    MatchBool old.has_failed (AsksNothing old new answer)
    ((done : Option ℕ) × Asks calls old.file new.file (sync_call done ∷ [])
    × (new ≡ record old { file = new.file; has_failed = is_fault answer }) × (answer ≡ synced_of done))

-- what contracts see of the disks in files that have these calls
abbrev pub file_disks : {F : Type 0} → (F → List Call) → Ghosts (FileDisk F)
file_disks calls = record {
  size = λ disk. disk.size;
  fixed = λ disk. None;
  honest = λ disk. ⊥;
  state = λ disk. unknown_state;
  own_read = FileReads calls;
  own_write = FileWrites calls;
  own_sync = FileSyncs calls;
}

-- what opening does after a file's answer to a call for a lock: a locked file is measured; a refusal returns it
abbrev pub FollowsLock : {F : Type 0} → (F → List Call) → F → Result (Unit {0}) TryLockError
    → Result (FileDisk F) (DiskFileFault × F) → Type 0
FollowsLock calls file (Ok u) (Ok disk) =
    Asks calls file disk.file (measure_call (Some disk.size) ∷ []) × (disk.has_failed ≡ false)
FollowsLock calls file (Ok u) (Err (fault.Measure cause, left)) = Asks calls file left (measure_call None ∷ [])
FollowsLock calls file (Ok u) (Err (other, left)) = ⊥
FollowsLock calls file (Err cause) result = result ≡ Err (lock_fault cause, file)

-- what opening a file as a disk answers: it is asked for a lock, by this call, and then measured; a refusal returns
-- the file
abbrev pub OpensBy : {F : Type 0} → (Option ℕ → Call) → (F → List Call) → F
    → Result (FileDisk F) (DiskFileFault × F) → Type 0
OpensBy lock calls file (Ok disk) =
    Asks calls file disk.file (lock (Some 1) ∷ measure_call (Some disk.size) ∷ []) × (disk.has_failed ≡ false)
OpensBy lock calls file (Err (fault.InUse, left)) = Asks calls file left (lock (Some 0) ∷ [])
OpensBy lock calls file (Err (fault.Lock cause, left)) = Asks calls file left (lock None ∷ [])
OpensBy lock calls file (Err (fault.Measure cause, left)) =
    Asks calls file left (lock (Some 1) ∷ measure_call None ∷ [])
OpensBy lock calls file (Err (other, left)) = ⊥

-- a file is opened for this program alone
abbrev pub Opens : {F : Type 0} → (F → List Call) → F → Result (FileDisk F) (DiskFileFault × F) → Type 0
Opens calls file result = OpensBy lock_call calls file result

-- a file is opened for reading
abbrev pub OpensShared : {F : Type 0} → (F → List Call) → F → Result (FileDisk F) (DiskFileFault × F) → Type 0
OpensShared calls file result = OpensBy share_call calls file result

-- what lengthening a disk's file by bytes answers: they are written behind its end, and synced; a refusal returns it
abbrev pub Lengthens : {F : Type 0} → (F → List Call) → FileDisk F → List ℕ
    → Result (FileDisk F) (DiskFileFault × F) → Type 0
Lengthens calls old bytes (Ok disk) =
    Asks calls old.file disk.file (write_call old.size bytes (Some (length bytes)) ∷ sync_call (Some 0) ∷ [])
    × (disk ≡ record old { file = disk.file; size = old.size + length bytes })
Lengthens calls old bytes (Err (fault.Lengthen cause, left)) = (moved : Option ℕ)
    × (is_whole (length bytes) moved ≡ false) × Asks calls old.file left (write_call old.size bytes moved ∷ [])
Lengthens calls old bytes (Err (fault.Sync cause, left)) =
    Asks calls old.file left (write_call old.size bytes (Some (length bytes)) ∷ sync_call None ∷ [])
Lengthens calls old bytes (Err (other, left)) = ⊥
