-- What memory shows of an honest disk below, and what a crash leaves of both.
use Rattle.pos_disk.proofs.Common.{DiskState, Elapses, Err, InRange, IsAtRest, List, MayLeave, Ok, Reads, Result}
use Rattle.pos_disk.proofs.Common.{Spoils, Syncs, Writes, arith, common_steps, false, fresh, get_or, length, part, refl}
use Rattle.pos_disk.proofs.Common.{splice, state_of, take, true, ℕ, ◌+◌, ◌-◌, ◌<◌, ◌≡◌, ◌≤◌}
use Rattle.pos_disk.proofs.ByteLemmas.{get_or-part, in_range, spliced_within}
use Rattle.pos_disk.proofs.MomentLemmas.{no_time}
use Rattle.pos_disk.specs.declared.device.DiskFault.{DiskFault}
use Rattle.pos_disk.specs.Kept.{counts}
use Rattle.pos_disk.specs.State.{CountsNow}
use Rattle.pos_mirror.proofs.CallLemmas.{spoils_of}
use Rattle.pos_mirror.specs.Mirror.{Covers, Follows, Shows}

-- memory alone is written
pub covers_memory : (b : DiskState) {m n : DiskState} {at k : ℕ} → Spoils m n at k → Covers b m → Covers b n
covers_memory b {at} {k} spoils covers i inside still = grind (arith, in_range at k i)

-- the disk below is only looked at
pub covers_looked : {T : Type 0} {b c : DiskState} (m : DiskState) {at : ℕ} {out : List ℕ} {result : Result T DiskFault}
    → Reads b c at out result → Covers b m → Covers c m
covers_looked m reads covers i inside still = grind arith

-- the disk below is synced, or fails in that
pub covers_sync : {T : Type 0} {b c : DiskState} (m : DiskState) {result : Result T DiskFault} → Syncs b c result
    → Covers b m → Covers c m
covers_sync m syncs covers i inside still = grind arith

-- one range is written in both
module _ (b c m n : DiskState) (at k : ℕ) (below : Spoils b c at k) (memory : Spoils m n at k) where
  pub covers_both : Covers b m → Covers c n
  covers_both covers i inside still = grind (arith, in_range at k i)

  -- the same bytes are in that range
  shows_both : Shows b m false → ((i : ℕ) → InRange at k i → get_or c.reading i 0 ≡ get_or n.reading i 0)
      → Shows c n false
  shows_both shows here = grind (arith, covers_both, in_range at k)

-- bytes that are written to both
spliced_both : (xs ys bytes : List ℕ) {at i : ℕ} → at + length bytes ≤ length xs → at + length bytes ≤ length ys
    → InRange at (length bytes) i → get_or (splice xs at bytes) i 0 ≡ get_or (splice ys at bytes) i 0
spliced_both xs ys bytes {at} {i} fits room inside =
    cc (spliced_within 0 xs bytes at i fits inside, spliced_within 0 ys bytes at i room inside)

-- bytes that are read from one and written to the other
spliced_part : (xs ys : List ℕ) {bytes : List ℕ} {at i : ℕ} → at + length bytes ≤ length ys
    → bytes ≡ part at (length bytes) xs → InRange at (length bytes) i → get_or xs i 0 ≡ get_or (splice ys at bytes) i 0
spliced_part xs ys {bytes} {at} {i} room is inside =
    grind (arith, spliced_within 0 ys bytes at i, get_or-part at (length bytes) xs (i - at) i)

-- a write that succeeded
pub shows_written : {S T : Type 0} {b c m n : DiskState} {at : ℕ} {bytes : List ℕ} {first : Result S DiskFault}
    {second : Result T DiskFault} {x : S} {y : T} → first ≡ Ok x → second ≡ Ok y → at + length bytes ≤ length b.reading
    → at + length bytes ≤ length m.reading → Writes b c at bytes first → Writes m n at bytes second → Shows b m false
    → Shows c n false
shows_written done did fits room below memory shows = grind (arith, shows_both, spoils_of, spliced_both)

-- a write that failed, after which its range was read and put into memory
pub shows_found : {S T : Type 0} {b c d m n : DiskState} {at : ℕ} {bytes found : List ℕ} {first : Result S DiskFault}
    (again : Result T DiskFault) {x : T} → again ≡ Ok x → length found ≡ length bytes
    → at + length found ≤ length m.reading → Writes b c at bytes first → Reads c d at found again
    → Spoils m n at (length bytes) → n.reading ≡ splice m.reading at found → Shows b m false → Shows d n false
shows_found (Err e) done long room below reads memory put shows = cc
shows_found {b} {c} {m} {n} {at} {bytes} (Ok u) done long room below reads memory put shows =
    let both = shows_both b c m n at (length bytes) (spoils_of below) memory shows
    (λ i inside. rw put (spliced_part c.reading m.reading room reads.bytes (rw long inside))) in
    record {
      covers = covers_looked n reads both.covers;
      same = λ present i inside. rw reads.reading (both.same present i inside);
    }

-- a sync of both
pub shows_synced : {b c m n : DiskState} → IsAtRest c → c.reading ≡ b.reading → n.reading ≡ m.reading → Shows b m false
    → Shows c n false
shows_synced rest same kept shows = grind arith

-- less is said of a lost mirror
pub shows_lost : {b m : DiskState} → Covers b m → Shows b m true
shows_lost covers = grind arith

-- a crash leaves of the disk below what it may leave of the mirror
pub leaves_covered : {b m : DiskState} {bytes : List ℕ} → length m.reading ≤ length b.reading → Covers b m
    → MayLeave b bytes → MayLeave m (take (length m.reading) bytes)
leaves_covered fits covers may = grind (arith, common_steps)

-- from this very moment on
pub begins : {b m : DiskState} {t : ℕ} → ((bytes : List ℕ) → b.left_since b.moment bytes → MayLeave b bytes)
    → t ≤ m.moment → ((bytes : List ℕ) → CountsNow m t bytes) → length m.reading ≤ length b.reading → Covers b m
    → Follows b b.moment m t
begins only later counts fits covers = grind (arith, leaves_covered)

-- a call more
pub follows_on : {b c m n : DiskState} {s t : ℕ} → Elapses b c → Elapses m n → ((bytes : List ℕ) → CountsNow n t bytes)
    → length n.reading ≡ length m.reading → length n.reading ≤ length c.reading → Covers c n → Follows b s m t
    → Follows c s n t
follows_on below memory counts long fits covers follows = grind (arith, leaves_covered)

-- a disk at rest, of which the first bytes are read
module _ {T : Type 0} (a b : DiskState) (bytes : List ℕ) (result : Result T DiskFault) (x : T) (done : result ≡ Ok x)
    (rest : IsAtRest a) (fits : length bytes ≤ length a.reading) (reads : Reads a b 0 bytes result) where
  equal_read : (i : ℕ) → i < length bytes → get_or a.reading i 0 ≡ get_or bytes i 0
  equal_read i inside = grind (arith, get_or-part 0 (length bytes) a.reading i i)

  -- memory with these bytes shows what the disk has
  pub shows_read : Shows b (state_of (fresh bytes)) false
  shows_read = grind (arith, equal_read)

  -- and a crash since before the read leaves no more
  pub follows_read : ((bytes : List ℕ) → a.left_since a.moment bytes → MayLeave a bytes)
      → Follows b a.moment (state_of (fresh bytes)) 0
  follows_read only =
      let m = state_of (fresh bytes) in
      follows_on reads.time (no_time m) (counts (fresh bytes) 0) refl (rw reads.reading fits) shows_read.covers
      (begins only (omega arith) (counts (fresh bytes) 0) fits (λ i inside still. (rest i, equal_read i inside)))
