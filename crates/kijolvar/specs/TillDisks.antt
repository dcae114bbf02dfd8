-- The disk of a till, and how its host stands to it (abi/README.md, "Totals in a file").
use Rattle.std.specs.Prelude.{◌≡◌, ◌≤◌, ◌||◌, ◌^◌, ◌-◌, ◌++◌, [], ◌∷◌, ℕ, Bool, List, Option, Some, None, OnOk, OnErr}
use Rattle.std.specs.Prelude.{Ok, IfSome, true, false, length, map, option_map}
use Rattle.pos_disk.specs.State.{Answer, CountsNow, DiskState, MayLeave, OnlyNow}
use Rattle.pos_disk.specs.Fuse.{counts_under, only_under, with_failures}
use Rattle.pos_disk.specs.Kept.{counts, only}
use Rattle.pos_disk.specs.Memory.{Memory, state_of, synced, written}
use Rattle.kijolvar.specs.Errands.{Adds, Does, HostWork, IsSync, IsWrite, file_after_all}
use Rattle.kijolvar.specs.declared.errands.Errand.{Errand}
use Rattle.kijolvar.specs.declared.till_disk.Settlement.{Settlement}
use Rattle.kijolvar.specs.declared.till_disk.Settlement.TheVariants.{InMemory, Settled, Owed, Failed}

-- A till's disk: its bytes in memory, and what its host has to do, if it has a host that keeps them in a file.
pub record HostedDisk : Type 0 where
  pub memory : Memory
  pub work : Option HostWork

-- the disk with these parts
abbrev pub hosted : Memory → Option HostWork → HostedDisk
hosted memory work = record { memory = memory; work = work }

-- the host's file, if there is one, in which all was done that isn't among the errands any more
abbrev pub file_of : HostedDisk → Option Memory
file_of disk = option_map (λ work. work.file) disk.work

-- whether a place is loose, as a number
abbrev pub loose_number : Bool → ℕ
loose_number true = 1
loose_number false = 0

-- a file as one list: how many errands were done in it, how many bytes it has, these bytes, and for each place 1 if it
-- is loose, else 0
abbrev pub listed : Memory → List ℕ
listed file = length file.past ∷ length file.present.reading ∷ file.present.reading
    ++ map loose_number file.present.loose

-- what no call of the disk changes: the file
abbrev pub fixed_of : HostedDisk → Option (List ℕ)
fixed_of disk = option_map (λ work. listed work.file) disk.work

-- a disk of which an errand was lost has failed, and fails from then on
abbrev pub failures_by : Bool → ℕ
failures_by true = 2 ^ 64 - 1
failures_by false = 0

abbrev pub failures_of : Option HostWork → ℕ
failures_of None = 0
failures_of (Some work) = failures_by work.lost

-- the disk in the terms of every disk
abbrev pub hosted_state : HostedDisk → DiskState
hosted_state disk = with_failures (state_of disk.memory) (failures_of disk.work)

-- the laws of a disk
pub counts_hosted : (disk : HostedDisk) (t : ℕ) (bytes : List ℕ) → CountsNow (hosted_state disk) t bytes
counts_hosted disk t bytes =
    counts_under (state_of disk.memory) (failures_of disk.work) t bytes (counts disk.memory t bytes)

pub only_hosted : (disk : HostedDisk) (bytes : List ℕ) → OnlyNow (hosted_state disk) bytes
only_hosted disk bytes = only_under (state_of disk.memory) (failures_of disk.work) bytes (only disk.memory bytes)

-- The clock of the second disk isn't behind that of the first. Since any moment of the first, a crash of the second may
-- have left all that a crash of the first may have left.
pub record GoesOnFrom (file memory : Memory) : Type 0 where
  pub later : length file.past ≤ length memory.past
  pub leaves : (t : ℕ) (bytes : List ℕ) → t ≤ length file.past → (state_of file).left_since t bytes
      → (state_of memory).left_since t bytes

-- Once the errands are done in the host's file, in order, it equals the disk, unless an errand was lost. In either case
-- a crash of the disk may have left all that a crash of the file may have left.
pub record IsBehind (work : HostWork) (memory : Memory) : Type 0 where
  pub same : work.lost ≡ false → file_after_all work.errands work.file ≡ memory
  pub goes_on : GoesOnFrom (file_after_all work.errands work.file) memory

-- likewise, if there is a file
abbrev pub IsInStep : HostedDisk → Type 0
IsInStep disk = IfSome disk.work (λ work. IsBehind work disk.memory)

-- the host's file equals the disk: its bytes, which of them are loose, and its past
abbrev pub IsInFile : HostedDisk → Type 0
IsInFile disk = file_of disk ≡ Some disk.memory

-- If the host's file equalled the disk before: at any moment while the errands that there are now are done in order, a
-- crash of the file leaves only what a crash of the disk may have left since then.
abbrev pub FileFollows : HostedDisk → HostedDisk → Type 0
FileFollows old new = IsInFile old → IfSome new.work (λ work. (done left : List Errand) → work.errands ≡ done ++ left
    → (bytes : List ℕ) → MayLeave (state_of (file_after_all done old.memory)) bytes
    → (hosted_state new).left_since (hosted_state old).moment bytes)

-- exactly one errand more is there, after the others, or it is lost; a till in memory has none
abbrev pub AddsIfHosted : (Errand → Type 0) → Option HostWork → Option HostWork → Answer → Type 0
AddsIfHosted Is None new answer = (new ≡ None) × (answer ≡ Ok tt)
AddsIfHosted Is (Some old) None answer = ⊥
AddsIfHosted Is (Some old) (Some new) answer = Adds Is old new answer

-- A read is answered from memory, and asks nothing of the host.
abbrev pub HostedReads : HostedDisk → HostedDisk → ℕ → List ℕ → List ℕ → Answer → Type 0
HostedReads old new at before after answer = (answer ≡ Ok tt) × (new ≡ old)

-- A write is an errand, and a fault if that is lost. Memory has the bytes.
pub record HostedWrites (old new : HostedDisk) (at : ℕ) (bytes : List ℕ) (answer : Answer) : Type 0 where
  pub memory : new.memory ≡ written at bytes old.memory
  pub adds : AddsIfHosted (IsWrite at bytes) old.work new.work answer

-- A sync is an errand, and a fault if that is lost.
pub record HostedSyncs (old new : HostedDisk) (answer : Answer) : Type 0 where
  pub done : OnOk answer (new.memory ≡ synced old.memory)
  pub failed : OnErr answer (new.memory ≡ old.memory)
  pub adds : AddsIfHosted IsSync old.work new.work answer

-- the oldest errand is done, if there is one; a till in memory has none
abbrev pub DoesIfHosted : Option HostWork → Option HostWork → Option Errand → Type 0
DoesIfHosted None new one = (new ≡ None) × (one ≡ None)
DoesIfHosted (Some old) None one = ⊥
DoesIfHosted (Some old) (Some new) one = Does old new one

-- The oldest errand is done, if there is one, and the disk is otherwise as it was.
pub record HostDoes (old new : HostedDisk) (one : Option Errand) : Type 0 where
  pub memory : new.memory ≡ old.memory
  pub does : DoesIfHosted old.work new.work one

-- the oldest errand is done, if it was told
abbrev pub DoesTold : Bool → HostedDisk → HostedDisk → Type 0
DoesTold true old new = (one : Option Errand) × HostDoes old new one
DoesTold false old new = new ≡ old

-- the errands that are left
abbrev pub errands_of : Option HostWork → List Errand
errands_of None = []
errands_of (Some work) = work.errands

-- how a host stands to a disk in its file: by whether it failed, and what is left
abbrev pub settlement_by : Bool → List Errand → Settlement
settlement_by true errands = Failed
settlement_by false [] = Settled
settlement_by false (errand ∷ errands) = Owed

-- how a host stands to a disk, by whether it said that an errand failed
abbrev pub settlement_with : Option HostWork → Bool → Settlement
settlement_with None failed = InMemory
settlement_with (Some work) failed = settlement_by (work.lost || failed) work.errands
