-- How a run of disk calls goes on.
use Rattle.pos_disk.proofs.Common.{DiskFault, DiskState, Elapses, IsAtRest, LeavesOnly, List, MayLeave, Reads, Result}
use Rattle.pos_disk.proofs.Common.{Syncs, Watches, arith, ext_get_or, ℕ, ◌≡◌}

-- no time has gone by
pub no_time : (disk : DiskState) → Elapses disk disk
no_time disk = grind arith

-- before the first call
pub started : (disk : DiskState) (P : List ℕ → Type 0) → ((c : List ℕ) → disk.left_since disk.moment c → P c)
    → LeavesOnly disk disk P
started disk P here = grind arith

-- one call more, after which a crash leaves what has P
pub goes_on : (old mid new : DiskState) (P : List ℕ → Type 0) → LeavesOnly old mid P → Elapses mid new
    → ((c : List ℕ) → MayLeave new c → P c) → LeavesOnly old new P
goes_on old mid new P so_far time here = grind arith

-- one run after another
pub followed_by : (old mid new : DiskState) (P : List ℕ → Type 0) → LeavesOnly old mid P → LeavesOnly mid new P
    → LeavesOnly old new P
followed_by old mid new P first second = grind arith

-- a weaker promise
pub weaker : (old new : DiskState) (P Q : List ℕ → Type 0) → ((c : List ℕ) → P c → Q c) → LeavesOnly old new P
    → LeavesOnly old new Q
weaker old new P Q to run = grind arith

-- a crash of a disk at rest leaves what a read gives
pub rest_leaves : (disk : DiskState) (bytes : List ℕ) → IsAtRest disk → MayLeave disk bytes → bytes ≡ disk.reading
rest_leaves disk bytes rest may = ext_get_or 0 bytes disk.reading may.same_length (λ i inside. may.settled i (rest i))

-- what a disk that was only looked at may leave, it might have left before
pub seen_before : (old new : DiskState) (bytes : List ℕ) → new.reading ≡ old.reading
    → ((i : ℕ) → new.loose i → old.loose i) → MayLeave new bytes → MayLeave old bytes
seen_before old new bytes same loose may = grind arith

module _ {T : Type 0} (old new : DiskState) (only : (c : List ℕ) → old.left_since old.moment c → MayLeave old c)
    (result : Result T DiskFault) where
  -- a call that leaves what a read gives and loosens nothing only looks at the disk
  watches : new.reading ≡ old.reading → ((i : ℕ) → new.loose i → old.loose i) → Elapses old new → Watches old new
  watches same loose time = grind (arith, seen_before)

  -- so does a read
  pub watches_read : (at : ℕ) (out : List ℕ) → Reads old new at out result → Watches old new
  watches_read at out reads = watches reads.reading reads.loose reads.time

  -- and a sync
  pub watches_sync : Syncs old new result → Watches old new
  watches_sync syncs = watches syncs.reading syncs.loose syncs.time

-- one look after another
pub watches_on : (old mid new : DiskState) → Watches old mid → Watches mid new → Watches old new
watches_on old mid new first second = grind (arith, seen_before)
