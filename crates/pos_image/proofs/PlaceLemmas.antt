-- Where slots and their fields lie.
use Rattle.pos_image.proofs.Common.{First, Fourth, IsBeside, Layout, Prepared, Second, Slot, Third, arith, layout_of}
use Rattle.pos_image.proofs.Common.{log_place, log_size, longest, other, slot_size, start, ℕ, ◌+◌, ◌<◌, ◌≡◌, ◌≤◌, ◌⊎◌}

-- In a slot the log follows the longest body, up to the end of the slot, which is on the disk.
pub record HasPlaces (slot : Slot) : Type 0 where
  pub log : 13 + longest (layout_of slot) ≡ log_place (layout_of slot)
  pub end : log_place (layout_of slot) + log_size (layout_of slot) ≡ slot_size (layout_of slot)
  pub some : 0 < log_size (layout_of slot)
  pub few : longest (layout_of slot) ≤ 81907
  pub low : slot_size (layout_of slot) ≤ 131072
  pub last : start slot + slot_size (layout_of slot) ≤ 327680

pub places : (slot : Slot) → HasPlaces slot
places First = omega arith
places Second = omega arith
places Third = omega arith
places Fourth = omega arith

-- a log has room
pub log_some : (layout : Layout) → 0 < log_size layout
log_some layout = grind arith

-- the slot beside the slot beside this one is this one
pub other_other : (slot : Slot) → other (other slot) ≡ slot
other_other slot = grind arith

-- and of the same layout
pub same_layout : (slot : Slot) → layout_of (other slot) ≡ layout_of slot
same_layout slot = grind arith

-- one slot ends before the other begins
abbrev pub IsApart : Slot → Slot → Type 0
IsApart a b = (start a + slot_size (layout_of a) ≤ start b) ⊎ (start b + slot_size (layout_of b) ≤ start a)

-- two slots lie apart
pub same_or_apart : (a b : Slot) → (a ≡ b) ⊎ IsApart a b
same_or_apart a b = grind arith

-- what is prepared lies apart from the current slot
pub beside_apart : (slot : Slot) (sequence : ℕ) (it : Prepared) → IsBeside slot sequence it → IsApart slot it.slot
beside_apart slot sequence it beside = grind arith
