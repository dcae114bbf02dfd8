-- Several calls that may leave any bytes within one range, which is loose afterwards.
use Rattle.pos_disk.proofs.Common.{DiskFault, DiskState, Err, HasCause, List, Loosens, Ok, OnOk, Reads, Result, Rises}
use Rattle.pos_disk.proofs.Common.{Spoils, Writes, arith, ext_get_or, length, part, splice, ℕ, ◌+◌, ◌-◌, ◌≡◌, ◌≤◌}
use Rattle.pos_disk.proofs.ByteLemmas.{get_or-part, in_range, length-part, length-splice, splice_elsewhere}
use Rattle.pos_disk.proofs.ByteLemmas.{spliced_within}

-- one range, and then the range behind it
pub spoils_on : {old mid new : DiskState} {at : ℕ} (n m : ℕ) → Spoils old mid at n → Spoils mid new (at + n) m
    → Spoils old new at (n + m)
spoils_on n m first second = grind arith

-- a count that didn't rise was met by no failure
steady : {before mid now : ℕ} → before ≤ mid → mid ≤ now → ¬ (Rises before now)
    → (¬ (Rises before mid)) × (¬ (Rises mid now))
steady first second steady_all = (λ rises. steady_all (grind arith), λ rises. steady_all (grind arith))

succeeded : {T : Type 0} {old new : DiskState} (result : Result T DiskFault) (P : Type 0) → HasCause old new result
    → ¬ (Rises old.failures new.failures) → OnOk result P → P
succeeded (Ok x) P cause no_failure holds = holds
succeeded (Err e) P cause no_failure holds = absurd (no_failure cause.rises)

-- bytes written where they were read change nothing
pub splice-part : (old : List ℕ) (at n : ℕ) → at + n ≤ length old → splice old at (part at n old) ≡ old
splice-part old at n fits =
    let long = length-part at n old fits in
    ext_get_or 0 _ old (length-splice old (part at n old) at (omega (arith, long))) (λ i _. grind (
      arith,
      long,
      in_range at n i,
      spliced_within 0 old (part at n old) at i,
      splice_elsewhere old (part at n old) at i,
      get_or-part at n old (i - at) i,
    ))

-- one place more, read and written
module _ {T : Type 0} (old mid read new : DiskState) (at n : ℕ) (out : List ℕ) (first second : Result T DiskFault) where
  -- one place more: it is read and written again
  pub loosens_on : Loosens old mid at n → length out ≡ 1 → at + n + 1 ≤ length mid.reading
      → Reads mid read (at + n) out first → Writes read new (at + n) out second → Loosens old new at (n + 1)
  loosens_on so_far one fits reads writes =
      let here : at + n + 0 ≡ at + n = omega arith in
      grind (arith, spoils_on, steady, succeeded, splice-part)
