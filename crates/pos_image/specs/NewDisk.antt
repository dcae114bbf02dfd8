-- What formatting a disk writes.
use Rattle.std.specs.Prelude.{◌≡◌, ◌⊎◌, ◌<◌, ◌+◌, ℕ, List, [], ◌∷◌, length, get_or}
use Rattle.pos_disk.specs.State.{DiskState}
use Rattle.pos_image.specs.Layout.{log_place, start}
use Rattle.pos_image.specs.declared.layout.Layout.TheVariants.{Layout1}
use Rattle.pos_image.specs.declared.slot.Slot.TheVariants.{Second, Third, Fourth}

-- the body of no files
abbrev pub no_files : List ℕ
no_files = 0 ∷ 0 ∷ []

-- the gates, and the first fields of the first slot
abbrev pub IsFormatted : ℕ → Type 0
IsFormatted i =
    (i < 15) ⊎ (i ≡ log_place Layout1) ⊎ (i ≡ start Second) ⊎ (i ≡ start Second + log_place Layout1)
    ⊎ (i ≡ start Third) ⊎ (i ≡ start Fourth)

-- nothing but these was written
pub record KeepsRest (old new : List ℕ) : Type 0 where
  pub same_length : length new ≡ length old
  pub elsewhere : (i : ℕ) → ¬ (IsFormatted i) → get_or new i 0 ≡ get_or old i 0

-- Formatting leaves 0 in the gates of both logs of layout 1, of the second slot and of the slots of layout 2.
pub record HasClosedGates (bytes : List ℕ) : Type 0 where
  pub first_log : get_or bytes 16384 0 ≡ 0
  pub second : get_or bytes 32768 0 ≡ 0
  pub second_log : get_or bytes 49152 0 ≡ 0
  pub third : get_or bytes 65536 0 ≡ 0
  pub fourth : get_or bytes 196608 0 ≡ 0

-- each byte at these places is 0
abbrev pub AllAreZero : List ℕ → DiskState → Type 0
AllAreZero places disk = (k : ℕ) → k < length places → get_or disk.reading (get_or places k 0) 0 ≡ 0
