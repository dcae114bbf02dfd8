-- The log span of the current slot: what the calls of a log do to it, and what a crash leaves of it.
use Rattle.std.specs.Prelude.{◌≡◌, ◌↔◌, ◌⊎◌, ◌≤◌, ◌<◌, ◌+◌, ◌^◌, ℕ, List, length, get_or, ⊤, MatchOption, Result, OnOk}
use Rattle.pos_disk.specs.State.{DiskState, InRange, MayLeave, LeavesOnly, splice}
use Rattle.pos_disk.specs.Within.{SameBut}
use Rattle.pos_disk.specs.declared.device.Disk.{Ghosts}
pub use Rattle.pos_image.specs.Images.{Span, span_of, MayHold, KeepsImage}
use Rattle.pos_image.specs.Images.{View, HasPrepared}
use Rattle.pos_image.specs.Layout.{disk_size, log_place, log_size, slot_size, start, layout_of}
use Rattle.pos_image.specs.Slots.{IsCurrent}
use Rattle.pos_image.specs.declared.layout.Layout.{Layout}

-- The disk has the current image and the one that is prepared, and no place is loose but in the current log span.
pub record IsHeld (state : DiskState) {D : Type 0} (images : View D) : Type 0 where
  pub loose : (i : ℕ) → state.loose i
      → InRange (start images.slot + log_place (layout_of images.slot)) (log_size (layout_of images.slot)) i
  pub current : IsCurrent state.reading images.slot images.body images.sequence
  pub prepared : MatchOption images.prepared ⊤ (HasPrepared state.reading images.slot images.sequence)

-- As images are that are ready, and still are while a log is written: the disk is large enough and, where it is honest,
-- holds them, and a crash now leaves the current image, and of its log what is settled.
pub record IsWritable {D : Type 0} (bound : Ghosts D) (images : View D) : Type 0 where
  pub large : disk_size ≤ bound.size images.disk
  pub counted : images.sequence < 2 ^ 64
  pub held : bound.honest images.disk → IsHeld (bound.state images.disk) images
  pub leaves : bound.honest images.disk → (c : List ℕ) → MayLeave (bound.state images.disk) c
      → KeepsImage images (span_of images (bound.state images.disk)) c

-- Bytes were written at a place of a span: all of them where the write succeeded, else any bytes in their range.
pub record WritesSpan {T E : Type 0} (old new : Span) (at : ℕ) (bytes : List ℕ) (result : Result T E) : Type 0 where
  pub written : OnOk result (new.bytes ≡ splice old.bytes at bytes)
  pub same_length : length new.bytes ≡ length old.bytes
  pub elsewhere : (i : ℕ) → ¬ (InRange at (length bytes) i) → get_or new.bytes i 0 ≡ get_or old.bytes i 0
  pub loose : (i : ℕ) → new.loose i → old.loose i ⊎ InRange at (length bytes) i

-- Of the disk no more than n bytes from a place on were written, and their places alone became loose.
pub record WritesOnly (at n : ℕ) (old new : DiskState) : Type 0 where
  pub same : SameBut at n old.reading new.reading
  pub loose : (i : ℕ) → new.loose i ↔ (old.loose i ⊎ InRange at n i)

-- The n bytes from a place on, counted from the gate of a slot of this layout, lie in its log span.
pub record IsInSpan (layout : Layout) (at n : ℕ) : Type 0 where
  pub from : log_place layout ≤ at
  pub to : at + n ≤ slot_size layout

-- whenever a crash came, it left the current image, and behind it what a crash may leave of this span
abbrev pub CrashKeepsImage : {D : Type 0} → View D → Span → DiskState → DiskState → Type 0
CrashKeepsImage images span old new = LeavesOnly old new (KeepsImage images span)
