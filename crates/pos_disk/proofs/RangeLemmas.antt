-- A run of writes that stay within one range.
use Rattle.pos_disk.proofs.Common.{DiskFault, DiskState, InRange, List, MayLeave, Result, Writes, arith, length, part}
use Rattle.pos_disk.proofs.Common.{refl, splice, ℕ, ◌+◌, ◌≡◌, ◌≤◌}
use Rattle.pos_disk.specs.Within.{IsWithin, SameBut}
use Rattle.pos_disk.proofs.ByteLemmas.{length-splice, same_part, splice_elsewhere}

-- bytes differ nowhere from themselves
pub unchanged : (bytes : List ℕ) (at n : ℕ) → SameBut at n bytes bytes
unchanged bytes at n = record { same_length = refl; elsewhere = λ i outside. refl }

-- bytes that differ within a range differ within a wider one
pub wider : {was bytes : List ℕ} {at n place m : ℕ} → place ≤ at → at + n ≤ place + m → SameBut at n was bytes
    → SameBut place m was bytes
wider low high same = record {
  same_length = same.same_length;
  elsewhere = λ i outside. same.elsewhere i (λ hit. outside (omega arith));
}

-- one change after another
pub same_on : {was mid bytes : List ℕ} {at n : ℕ} → SameBut at n was mid → SameBut at n mid bytes
    → SameBut at n was bytes
same_on first second = grind arith

-- bytes put over others leave the rest
pub spliced_same : (old bytes : List ℕ) (at : ℕ) → at + length bytes ≤ length old
    → SameBut at (length bytes) old (splice old at bytes)
spliced_same old bytes at fits = grind (arith, length-splice, splice_elsewhere)

-- a part outside the range is as it was
pub kept_part : {was bytes : List ℕ} {at n : ℕ} → SameBut at n was bytes → (place m : ℕ) → place + m ≤ length was
    → ((i : ℕ) → InRange place m i → ¬ (InRange at n i)) → part place m bytes ≡ part place m was
kept_part same place m fits outside = grind (arith, same_part)

-- a run begins where only places within the range are loose, as none at rest
pub within_here : {disk : DiskState} {at n : ℕ} → ((i : ℕ) → disk.loose i → InRange at n i)
    → IsWithin disk.reading at n disk
within_here loose = record { same = unchanged _ _ _; loose = loose }

-- a crash then leaves bytes that differ within the range only
pub leaves_within : {was : List ℕ} {at n : ℕ} {disk : DiskState} → IsWithin was at n disk → (c : List ℕ)
    → MayLeave disk c → SameBut at n was c
leaves_within within c may = grind arith

module _ {T : Type 0} {was : List ℕ} {at n : ℕ} {old new : DiskState} (result : Result T DiskFault)
    (within : IsWithin was at n old) where
  -- a write within the range stays there
  pub within_write : {place : ℕ} {bytes : List ℕ} → at ≤ place → place + length bytes ≤ at + n
      → Writes old new place bytes result → IsWithin was at n new
  within_write low high writes = grind arith
