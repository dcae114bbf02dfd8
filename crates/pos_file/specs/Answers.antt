-- What a disk in a file answers.
use Rattle.std.specs.Prelude.{ℕ, Bool, cond, Option, Some, None, Ok, Err}
use Rattle.std.specs.declared.fs.locks.TryLockError.{TryLockError}
use Rattle.std.specs.declared.fs.locks.TryLockError.TheVariants as lock
use Rattle.pos_disk.specs.State.{Answer}
use Rattle.pos_file.specs.Calls.{is_whole}
use Rattle.pos_file.specs.declared.fault.DiskFileFault.{DiskFileFault}
use Rattle.pos_file.specs.declared.fault.DiskFileFault.TheVariants as fault

-- a fault, unless this holds
abbrev pub fault_unless : Bool → Answer
fault_unless done = cond done (Ok tt) (Err record {})

-- what the disk answers if its file moved so many of the bytes that were asked for: a fault unless it moved all
abbrev pub answer_of : ℕ → Option ℕ → Answer
answer_of asked moved = fault_unless (is_whole asked moved)

-- what the disk answers if its file was synced, or not
abbrev pub synced_of : Option ℕ → Answer
synced_of (Some n) = Ok tt
synced_of None = Err record {}

-- why a file isn't locked
abbrev pub lock_fault : TryLockError → DiskFileFault
lock_fault lock.WouldBlock = fault.InUse
lock_fault (lock.Error cause) = fault.Lock cause
