-- What the calls of a mirror do, in the terms of every disk.
use Rattle.pos_disk.proofs.Common.{DiskState, Elapses, Err, HasCause, List, Ok, Reads, Result, Rises, Spoils, Syncs}
use Rattle.pos_disk.proofs.Common.{Writes, arith, cases_lt, length, refl, ℕ, ◌+◌, ◌<◌, ◌^◌, ◌≡◌}
use Rattle.std.proofs.Common.{subst, sym}
use Rattle.std.specs.Result.{is_err}
use Rattle.pos_disk.specs.State.{Answer}
use Rattle.pos_disk.specs.Unkept.{is_fault}
use Rattle.pos_disk.specs.declared.device.DiskFault.{DiskFault}
use Rattle.pos_disk.specs.Fuse.{counted, failures_after, may_under, with_failures}
use Rattle.pos_disk.specs.declared.device.Disk.{Ghosts}
use Rattle.pos_mirror.specs.Calls.{Calls, and_read, and_sync, and_write, none}
use Rattle.pos_mirror.specs.Mirror.{Follows, Mirror, mirror_state}

-- two words for a fault
pub fault_is : (answer : Answer) → is_err answer ≡ is_fault answer
fault_is (Ok x) = refl
fault_is (Err e) = refl

-- time goes on under other counts of failures
pub time_under : {old new : DiskState} (f g : ℕ) → Elapses old new → Elapses (with_failures old f) (with_failures new g)
time_under f g time = grind (arith, may_under)

-- a write leaves any bytes in its range
pub spoils_of : {T : Type 0} {old new : DiskState} {at : ℕ} {bytes : List ℕ} {result : Result T DiskFault}
    → Writes old new at bytes result → Spoils old new at (length bytes)
spoils_of writes = grind arith

-- one failure more is a rise
rises : {f : ℕ} → f < 2 ^ 64 → Rises f (counted f)
rises {f} last = grind (arith, cases_lt (f + 1) (2 ^ 64))

-- the mirror's own count has its cause
cause_under : {T : Type 0} (old new : DiskState) {f : ℕ} (result : Result T DiskFault) → f < 2 ^ 64
    → HasCause (with_failures old f) (with_failures new (failures_after f result)) result
cause_under old new (Ok x) last = grind arith
cause_under old new (Err e) last = grind (arith, rises)

module _ {T : Type 0} {old new : DiskState} (f : ℕ) (last : f < 2 ^ 64) where
  -- a read from memory
  pub reads_under : {at : ℕ} {out : List ℕ} {result : Result T DiskFault} {x : T} → result ≡ Ok x
      → Reads old new at out result → Reads (with_failures old f) (with_failures new f) at out result
  reads_under done reads = grind (arith, time_under, cause_under)

  -- a write that succeeded below and in memory
  pub writes_under : {at : ℕ} {bytes : List ℕ} {result : Result T DiskFault} {x : T} → result ≡ Ok x
      → Writes old new at bytes result → Writes (with_failures old f) (with_failures new f) at bytes result
  writes_under done writes = grind (arith, time_under, cause_under)

  -- a write that failed, after which memory has any bytes in its range
  pub fails_under : {at : ℕ} {bytes : List ℕ} (e : DiskFault) → Spoils old new at (length bytes)
      → Writes {T = T} (with_failures old f) (with_failures new (counted f)) at bytes (Err e)
  fails_under e spoils = grind (arith, time_under, cause_under)

  -- a sync that succeeded below and in memory
  pub syncs_under : {result : Result T DiskFault} {x : T} → result ≡ Ok x → Syncs old new result
      → Syncs (with_failures old f) (with_failures new f) result
  syncs_under done syncs = grind (arith, time_under, cause_under)

-- a crash at any moment of some calls leaves of the disk below what it may have left of the mirror
module _ {D : Type 0} (bound : Ghosts D) (first : Mirror D) (s t : ℕ) where
  abbrev Goes : Mirror D → Type 0
  Goes new = bound.honest new.below × Follows (bound.state new.below) s (mirror_state new) t

  recounted : (old : Mirror D) (failures : ℕ) → Goes old → Goes (record old { failures = failures })
  recounted old failures so_far = grind arith

  pub calls_follow : {new : Mirror D} → Calls bound first new
      → bound.honest first.below × Follows (bound.state first.below) s (mirror_state first) t
      → bound.honest new.below × Follows (bound.state new.below) s (mirror_state new) t
  calls_follow none begins = begins
  calls_follow (and_read old new at before after answer calls reads) begins =
      subst Goes (sym reads.same) (recounted old (failures_after old.failures answer) (calls_follow calls begins))
  calls_follow (and_write old new at bytes answer calls writes) begins =
      let before = calls_follow calls begins in
      let goes = writes.follows before.0 in
      (goes.honest, goes.follows s t before.1)
  calls_follow (and_sync old new answer calls syncs) begins =
      let before = calls_follow calls begins in
      let goes = syncs.follows before.0 in
      (goes.honest, goes.follows s t before.1)
