-- The bytes on which no image is found.
use Rattle.pos_image.proofs.Common.{DamagedImage, HasHeads, Head, Layout, List, NoImage, Slot, arith, false, first_of}
use Rattle.pos_image.proofs.Common.{image_on, is_open, layout_of, layout_on, length, length_at, longest, lt-leb, lt-ltb}
use Rattle.pos_image.proofs.Common.{nat_tests, other, sequence_at, start, true, ℕ, ◌<◌, ◌∙◌, ◌≡◌, ◌≤◌}
use Rattle.pos_image.proofs.CurrentImageLemmas.{chosen, chosen_stands}
use Rattle.pos_image.proofs.PlaceLemmas.{same_layout}

-- too few bytes hold no image
pub short_stands : (bytes : List ℕ) → length bytes < 327680 → image_on bytes ≡ NoImage
unfolding image_on
short_stands bytes short = rw (lt-ltb (length bytes) 327680 short)

-- an open slot has too long a body, and the one beside it is closed or has the lesser sequence: damage
long_found : (bytes : List ℕ) (slot : Slot) → 327680 ≤ length bytes → layout_on bytes ≡ layout_of slot
    → is_open bytes (start slot) ≡ true → (is_open bytes (start (other slot)) ≡ true
    → sequence_at bytes (start (other slot)) < sequence_at bytes (start slot))
    → longest (layout_of slot) < length_at bytes (start slot) → image_on bytes ≡ DamagedImage
long_found bytes slot whole layout here lesser over =
    chosen_stands bytes slot whole (chosen bytes slot layout here lesser)
    ∙ rw (lt-leb (length_at bytes (start slot)) (longest (layout_of slot)) over)

-- what the heads of both slots say
module _ {bytes : List ℕ} {layout : Layout} {first second : Head} (heads : HasHeads bytes layout first second) where
  -- all gates are closed: no image
  pub none_found : first.gate ≡ false → second.gate ≡ false → image_on bytes ≡ NoImage
  unfolding image_on layout_on
  none_found shut shut_too = grind (arith, nat_tests)

  -- both gates are open with one sequence: damage
  pub tie_found : first.gate ≡ true → second.gate ≡ true → first.sequence ≡ second.sequence
      → image_on bytes ≡ DamagedImage
  unfolding image_on
  tie_found one two tie = grind (arith, true, nat_tests)

  -- the first slot has too long a body
  pub first_long : first.gate ≡ true → (second.gate ≡ true → second.sequence < first.sequence)
      → longest (layout_of (first_of layout)) < first.length → image_on bytes ≡ DamagedImage
  first_long opened lesser over = grind (arith, long_found)

  -- or the second one
  pub second_long : second.gate ≡ true → (first.gate ≡ true → first.sequence < second.sequence)
      → longest (layout_of (other (first_of layout))) < second.length → image_on bytes ≡ DamagedImage
  second_long opened lesser over = grind (arith, long_found, same_layout)
