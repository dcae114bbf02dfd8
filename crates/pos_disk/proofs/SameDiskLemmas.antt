-- What holds of a disk holds of one that is the same.
use Rattle.pos_disk.proofs.Common.{DiskState, IsAtRest, IsSame, LeavesOnly, List, MayLeave, arith, ℕ}
use Rattle.pos_disk.specs.Keeps.{KeepsState}
use Rattle.pos_disk.specs.declared.device.Disk.{Ghosts}

-- and as what it was the same as
pub same_again : (old new : DiskState) → IsSame old new → IsSame new old
same_again old new same = grind arith

pub same_on : (old mid new : DiskState) → IsSame old mid → IsSame mid new → IsSame old new
same_on old mid new first second = grind arith

-- it is at rest
pub same_rest : (old new : DiskState) → IsSame old new → IsAtRest old → IsAtRest new
same_rest old new same rest = grind arith

-- a crash may leave the same of it
pub same_may : (old new : DiskState) (bytes : List ℕ) → IsSame old new → MayLeave old bytes → MayLeave new bytes
same_may old new bytes same may = grind arith

-- a run before it, and one after it
pub leaves_before : (old mid new : DiskState) (P : List ℕ → Type 0) → LeavesOnly old mid P → IsSame mid new
    → LeavesOnly old new P
leaves_before old mid new P run same = grind arith

pub leaves_after : (old mid new : DiskState) (P : List ℕ → Type 0) → IsSame old mid → LeavesOnly mid new P
    → LeavesOnly old new P
leaves_after old mid new P same run = grind arith

-- two such steps are one
pub keeps_on : {D : Type 0} {bound : Ghosts D} {old mid new : D} → KeepsState bound old mid → KeepsState bound mid new
    → KeepsState bound old new
keeps_on first second = grind (arith, same_on)
