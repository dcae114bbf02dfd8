-- A read of bytes in memory.
use Rattle.std.proofs.Common.{List, Ok, Some, ap, arith, drop, length, length-append, length-take, min, refl, suc, sym}
use Rattle.std.proofs.Common.{take, zero, ℕ, ◌++◌, ◌+◌, ◌-◌, ◌∙◌, ◌≡◌}
use Rattle.std.proofs.lemmas.List.{length-drop, take_all}
use lib.Seq.{take-add, take-append_seam}
use Rattle.pos_streams.specs.Streams.{TakesBytes, taken_with}

-- a front up to the end is one of any length beyond
same_front : (xs : List ℕ) (position at : ℕ) → at ≡ min position (length xs) → take position xs ≡ take at xs
same_front xs position at is = grind (arith, is, take_all)

-- a read that found bytes took those behind the position
pub takes_more : (xs buffer : List ℕ) {front : List ℕ} (position ends : ℕ) {at : ℕ} (count : ℕ)
    → at ≡ min position (length xs) → count ≡ min (length buffer) (length xs - at) → (count ≡ 0 → ⊥)
    → front ≡ take ((at + count) - at) (drop at xs) → TakesBytes (taken_with (take position xs) ends 0 (Some xs))
    (front ++ drop count buffer) (Ok count) (taken_with (take (at + count) xs) ends 0 (Some xs))
takes_more xs buffer position ends zero begins fits some is = absurd (some refl)
takes_more xs buffer {front} position ends {at} (suc n) begins fits some is =
    let same : (at + suc n) - at ≡ suc n = omega arith in
    let read : front ≡ take (suc n) (drop at xs) = is ∙ ap (λ k. take k (drop at xs)) same in
    let long : length front ≡ suc n =
    ap length read ∙ length-take (suc n) (drop at xs) ∙ omega (arith, length-drop at xs) in
    let rest = drop (suc n) buffer in
    let there : take (suc n) (front ++ rest) ≡ take (suc n) (drop at xs) =
    ap (λ k. take k (front ++ rest)) (sym long) ∙ take-append_seam front rest ∙ read in (
      omega (arith, length-append front rest),
      ap (λ bytes. taken_with bytes ends 0 (Some xs))
          (take-add at (suc n) xs ∙ rw (there, same_front xs position at begins) refl),
    )
