-- What image the bytes of a disk hold.
use Rattle.std.specs.Prelude.{◌≡◌, ◌+◌, ℕ, List, length, get_or, nat_lt, nat_le, nat_eq, Bool, not, ◌&&◌, ◌||◌}
use Rattle.std.specs.Prelude.{if◌then◌else◌}
use Rattle.pos_disk.specs.State.{DiskState, IsAtRest, part}
use Rattle.pos_image.specs.Layout.{disk_size, longest, log_place, log_size, start, other, first_of, layout_of}
use Rattle.pos_image.specs.Layout.{layout_on, is_open, is_migrated, sequence_at, length_at, body_at}
use Rattle.pos_image.specs.NewDisk.{HasClosedGates, no_files}
use Rattle.pos_image.specs.declared.layout.Layout.{Layout}
use Rattle.pos_image.specs.declared.layout.Layout.TheVariants.{Layout1}
use Rattle.pos_image.specs.declared.slot.Slot.{Slot}
use Rattle.pos_image.specs.declared.slot.Slot.TheVariants.{First, Second}

-- no image, a disk that was damaged, or the current image, by the layout of the disk
pub data ImageStanding : Type 0 where
  NoImage : ImageStanding
  DamagedImage : ImageStanding
  OneImage : (layout : Layout) (body : List ℕ) (sequence : ℕ) → ImageStanding

-- one of the bytes that `format` looks at reads as an open gate: those where the slots of both layouts begin
abbrev pub is_marked : List ℕ → Bool
is_marked bytes = is_open bytes (start First) || is_open bytes (start Second) || is_migrated bytes

-- this slot and the one beside it are open, with the same sequence
abbrev pub is_tied : List ℕ → Slot → Bool
is_tied bytes slot = is_open bytes (start slot) && is_open bytes (start (other slot))
    && nat_eq (sequence_at bytes (start slot)) (sequence_at bytes (start (other slot)))

-- the slot beside this one is closed or has the lesser sequence
abbrev pub is_greater : List ℕ → Slot → Bool
is_greater bytes slot = not (is_open bytes (start (other slot)))
    || nat_lt (sequence_at bytes (start (other slot))) (sequence_at bytes (start slot))

-- this slot, if it is open, and the one beside it is closed or has the lesser sequence; else the one beside it
abbrev pub greater_of : List ℕ → Slot → Slot
greater_of bytes slot = if is_open bytes (start slot) && is_greater bytes slot then slot else other slot

-- the slot of the current image, if there is one
abbrev pub current_on : List ℕ → Slot
current_on bytes = greater_of bytes (first_of (layout_on bytes))

-- the image in this slot
abbrev pub image_in : List ℕ → Slot → ImageStanding
image_in bytes slot =
    if nat_le (length_at bytes (start slot)) (longest (layout_of slot))
    then OneImage (layout_of slot) (body_at bytes (start slot)) (sequence_at bytes (start slot))
    else DamagedImage

-- The image that the bytes hold. None where they are too short or the gates of all four slots are closed; else a
-- damaged one where both slots of the layout have the same sequence, or the body is too long; else the body and
-- sequence of its open slot with the greater sequence. Where a gate of layout 2 is open, those of layout 1 don't count.
unfoldable pub image_on : List ℕ → ImageStanding
image_on bytes =
    if nat_lt (length bytes) disk_size || not (is_marked bytes) then NoImage
    else if is_tied bytes (first_of (layout_on bytes)) then DamagedImage
    else image_in bytes (current_on bytes)

-- the log span of this slot
abbrev pub log_in : List ℕ → Slot → List ℕ
log_in bytes slot = part (start slot + log_place (layout_of slot)) (log_size (layout_of slot)) bytes

-- the span of the current slot behind its image, where a log has room
unfoldable pub log_of : List ℕ → List ℕ
log_of bytes = log_in bytes (current_on bytes)

-- the current image of the bytes, by this layout, has this body and sequence
abbrev pub ShowsImage : Layout → List ℕ → ℕ → List ℕ → Type 0
ShowsImage layout body sequence bytes = image_on bytes ≡ OneImage layout body sequence

-- The current image of the bytes, by this layout, has this body and sequence, with this log span behind it.
pub record HasImage (layout : Layout) (body : List ℕ) (sequence : ℕ) (span : List ℕ) (bytes : List ℕ) : Type 0 where
  pub image : ShowsImage layout body sequence bytes
  pub log : log_of bytes ≡ span

-- The current image of the bytes, by this layout, has this body and sequence, and the first gate of the log span is 0.
pub record HasNewImage (layout : Layout) (body : List ℕ) (sequence : ℕ) (bytes : List ℕ) : Type 0 where
  pub image : ShowsImage layout body sequence bytes
  pub log : get_or (log_of bytes) 0 0 ≡ 0

-- The current image is that of no files with sequence 1, by layout 1, and every other gate is closed.
pub record IsNewDisk (bytes : List ℕ) : Type 0 where
  pub image : HasNewImage Layout1 no_files 1 bytes
  pub gates : HasClosedGates bytes

-- A disk that was formatted: at rest, with no files by layout 1, and sequence 1.
pub record HasNoFiles (disk : DiskState) : Type 0 where
  pub at_rest : IsAtRest disk
  pub image : HasNewImage Layout1 no_files 1 disk.reading
