-- What the calls of a disk in memory do, in the terms of every disk.
use Rattle.pos_disk.proofs.Common.{Elapses, HasCause, InRange, LeftAt, LeftSince, List, Memory, Moment, Ok, Syncs}
use Rattle.pos_disk.proofs.Common.{Writes, [], arith, cases_lt, common_steps, false, get_or, get_or_append_left}
use Rattle.pos_disk.proofs.Common.{get_or_default, inl, inr, length, length-append, length-replicate, refl, replicate}
use Rattle.pos_disk.proofs.Common.{splice, state_of, synced, true, written, ℕ, ⊎_elim, ◌++◌, ◌+◌, ◌<◌, ◌∙◌, ◌∷◌, ◌≡◌}
use Rattle.pos_disk.proofs.Common.{◌≤◌, ◌⊎◌}
use Rattle.std.proofs.Math.Seq.{get_or-append_seam}
use Rattle.pos_disk.proofs.ByteLemmas.{in_range, length-splice, spliced_elsewhere, spliced_within}

-- one moment more has gone by
module _ (past : List Moment) (present next : Moment) where
  pub longer : length (past ++ present ∷ []) ≡ length past + 1
  longer = length-append past (present ∷ [])

  earlier : (k : ℕ) → k < length past → get_or (past ++ present ∷ []) k next ≡ get_or past k present
  earlier k before = get_or_append_left past (present ∷ []) next k before ∙ get_or_default past k next present before

  latest : get_or (past ++ present ∷ []) (length past) next ≡ present
  latest = get_or-append_seam past present [] next

  pub keeps : (t : ℕ) (c : List ℕ) → t ≤ length past → LeftSince past present t c
      → LeftSince (past ++ present ∷ []) next t c
  keeps t c le left = grind (arith, longer, earlier, length, latest)

  nothing_else : {t : ℕ} {c : List ℕ} → LeftSince (past ++ present ∷ []) next t c
      → LeftSince past present t c ⊎ LeftAt next c
  nothing_else left = grind (arith, cases_lt, length, earlier, longer, latest)

-- a disk in memory keeps its moment before each change
pub elapsed : (disk : Memory) (next : Moment) (settled : List ℕ) → Elapses (state_of disk)
    (state_of (record { present = next; settled = settled; past = disk.past ++ disk.present ∷ [] }))
elapsed disk next settled = record {
  later = omega (arith, longer disk.past disk.present next);
  keeps = keeps disk.past disk.present next;
  nothing_else = λ t c le left. ⊎_elim inl (λ now. inr assumption) (nothing_else disk.past disk.present next left);
}

no_failure : {T : Type 0} (old new : Memory) (x : T) → HasCause (state_of old) (state_of new) (Ok x)
no_failure old new x = search arith

-- its write does what a write of an honest disk does
pub writes : (disk : Memory) (at : ℕ) (bytes : List ℕ) → length disk.present.loose ≡ length disk.present.reading
    → at + length bytes ≤ length disk.present.reading
    → Writes {T = Unit {0}} (state_of disk) (state_of (written at bytes disk)) at bytes (Ok tt)
writes disk at bytes long fits =
    let marks = replicate (length bytes) true in
    let marked = length-replicate (length bytes) true in
    let room : at + length marks ≤ length disk.present.loose = omega (arith, long, marked) in
    let hit : (i : ℕ) → InRange at (length bytes) i → get_or (splice disk.present.loose at marks) i false ≡ true =
    λ i inside. grind (arith, common_steps, spliced_within false disk.present.loose marks at i room) in
    let missed : (i : ℕ) → ¬ (InRange at (length bytes) i)
    → get_or (splice disk.present.loose at marks) i false ≡ get_or disk.present.loose i false =
    λ i outside. grind (arith, marked, spliced_elsewhere false disk.present.loose marks at i room) in
    record {
      written = refl;
      same_length = length-splice disk.present.reading bytes at fits;
      elsewhere = λ i outside. spliced_elsewhere 0 disk.present.reading bytes at i fits outside;
      loose = λ i is. grind (arith, in_range at (length bytes) i, missed i);
      reached = λ i either. grind (arith, in_range at (length bytes) i, hit i, missed i);
      time = elapsed disk (written at bytes disk).present disk.settled;
      cause = no_failure disk (written at bytes disk) tt;
    }

none_loose : (n i : ℕ) → ¬ (get_or (replicate n false) i false ≡ true)
none_loose n i is = grind (arith, common_steps)

-- and so does its sync
pub syncs : (disk : Memory) → Syncs {T = Unit {0}} (state_of disk) (state_of (synced disk)) (Ok tt)
syncs disk = record {
  at_rest = λ i loose. none_loose (length disk.present.reading) i loose;
  reading = refl;
  loose = λ i loose. absurd (none_loose (length disk.present.reading) i loose);
  time = elapsed disk (synced disk).present disk.present.reading;
  cause = no_failure disk (synced disk) tt;
}
