-- What a write does to a disk in memory.
use Rattle.pos_disk.proofs.Common.{InRange, IsKept, IsSaved, List, Moment, [], arith, choose, common_steps, drop-map}
use Rattle.pos_disk.proofs.Common.{ext_get_or, false, get_or, length, length-replicate, list_any, loose_by, map-append}
use Rattle.pos_disk.proofs.Common.{memory_of, moment_of, nat_tests, part, refl, replicate, splice, suc, sym, take-map}
use Rattle.pos_disk.proofs.Common.{true, written, zero, ℕ, ◌++◌, ◌+◌, ◌-◌, ◌==◌, ◌∙◌, ◌∷◌, ◌≡◌, ◌≤◌}
use Rattle.std.proofs.lemmas.List.Folds.{list_any_at}
use Rattle.pos_disk.proofs.ByteLemmas.{get_or-part, in_range, length-part, length-splice, splice_elsewhere}
use Rattle.pos_disk.proofs.ByteLemmas.{spliced_within}
use Rattle.pos_disk.proofs.StampLemmas.{length_settled, settled_at}

all_bear : (stamp n : ℕ) → loose_by stamp (replicate n stamp) ≡ replicate n true
all_bear stamp zero = refl
all_bear stamp (suc n) =
    let bears : (stamp == stamp) ≡ true = grind (arith, nat_tests) in
    rw (bears, all_bear stamp n)

loose_splice : (stamp at n : ℕ) (stamps : List ℕ)
    → loose_by stamp (splice stamps at (replicate n stamp)) ≡ splice (loose_by stamp stamps) at (replicate n true)
loose_splice stamp at n stamps =
    simp (map-append, length-replicate, take-map (λ s. s == stamp) at stamps, drop-map, all_bear stamp n)

module _ (bytes saved stamps : List ℕ) (stamp at n : ℕ) (kept : IsKept bytes saved stamps stamp)
    (fits : at + n ≤ length bytes) (new saved' : List ℕ) (long : length new ≡ n)
    (save : IsSaved stamps stamp bytes at n saved saved') where
  room : at + length (replicate n stamp) ≤ length stamps
  room = omega (arith, length-replicate n stamp, kept.stamps_length)

  inside_bears : (i : ℕ) → InRange at n i → get_or (splice stamps at (replicate n stamp)) i 0 ≡ stamp
  inside_bears i inside = grind (arith, common_steps, spliced_within 0 stamps (replicate n stamp) at i room)

  outside_same : (i : ℕ) → ¬ (InRange at n i) → get_or (splice stamps at (replicate n stamp)) i 0 ≡ get_or stamps i 0
  outside_same i outside = grind (
    arith,
    length-replicate n stamp,
    splice_elsewhere stamps (replicate n stamp) at i room,
  )

  -- what a disk in memory keeps of its places still holds after a write
  pub still_kept : IsKept (splice bytes at new) saved' (splice stamps at (replicate n stamp)) stamp
  still_kept = grind (arith, length-splice, replicate, room, in_range, inside_bears, outside_same)

  -- the bytes of the last sync stay
  stays_settled : choose (loose_by stamp (splice stamps at (replicate n stamp))) saved' (splice bytes at new)
      ≡ choose (loose_by stamp stamps) saved bytes
  stays_settled =
      let now = splice bytes at new in
      let after = still_kept in
      let size = length-splice bytes new at (omega (arith, long)) in
      let settled =
      settled_at now saved' (splice stamps at (replicate n stamp)) stamp after.stamps_length after.saved_length in
      let length_now = length_settled now saved' _ stamp after.stamps_length after.saved_length in
      let was = settled_at bytes saved stamps stamp kept.stamps_length kept.saved_length in
      ext_get_or 0 _ _ (length_now ∙ size
      ∙ sym (length_settled bytes saved stamps stamp kept.stamps_length kept.saved_length)) (λ i inside.
      let here = in_range at n i in
      let rest = splice_elsewhere bytes new at i in
      grind (
        arith,
        nat_tests,
        settled i,
        was i,
        length_now,
        size,
        here,
        inside_bears i,
        outside_same i,
        save.saved i,
        save.kept i,
        save.elsewhere i,
        rest,
      ))

  -- and the disk is the one that was written to
  pub is_written : (past : List Moment) → memory_of (splice bytes at new) saved' (splice stamps at (replicate n stamp))
      stamp (past ++ moment_of bytes stamps stamp ∷ []) ≡ written at new (memory_of bytes saved stamps stamp past)
  is_written past = rw (stays_settled, loose_splice stamp at n stamps, long)

-- where no place of a range bears the stamp, the bytes of the range are saved all at once
pub saved_at_once : {stamps : List ℕ} {stamp : ℕ} {bytes : List ℕ} (at : ℕ) {n : ℕ} {old : List ℕ}
    → at + n ≤ length stamps → at + n ≤ length bytes → at + n ≤ length old
    → list_any (λ s. s == stamp) (part at n stamps) ≡ false
    → IsSaved stamps stamp bytes at n old (splice old at (part at n bytes))
saved_at_once {stamps} {stamp} {bytes} at {n} {old} stamps_fit bytes_fit old_fit none =
    let new = part at n bytes in
    let long : length new ≡ n = length-part at n bytes bytes_fit in
    let fits : at + length new ≤ length old = omega (arith, long) in
    record {
      same_length = length-splice old new at fits;
      saved = λ i inside isnt. grind (
        arith,
        long,
        spliced_within 0 old new at i fits,
        get_or-part at n bytes (i - at) i,
      );
      kept = λ i inside is.
          let here : get_or (part at n stamps) (i - at) 0 ≡ stamp = grind (arith, get_or-part at n stamps (i - at) i) in
          let bears : (get_or (part at n stamps) (i - at) 0 == stamp) ≡ true = grind (arith, nat_tests, here) in
          let found = list_any_at (λ s. s == stamp) (part at n stamps) (i - at) 0
          (omega (arith, length-part at n stamps stamps_fit)) bears in
          absurd (cc (none, found));
      elsewhere = λ i outside. grind (arith, long, splice_elsewhere old new at i fits);
    }
