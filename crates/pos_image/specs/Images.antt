-- What contracts see of images on a disk.
use Rattle.std.specs.Prelude.{◌≡◌, ◌↔◌, ◌⊎◌, ◌≤◌, ◌<◌, ◌+◌, ◌^◌, ℕ, List, length, get_or, Option, Some, None, true}
use Rattle.std.specs.Prelude.{Result, Ok, Err, OnOk, IsErr, IsErrOf, ⊤, MatchOption}
use Rattle.pos_disk.specs.State.{DiskState, IsAtRest, MayLeave, LeavesOnly, Rises, HasNotFailed, Watches}
use Rattle.pos_disk.specs.Keeps.{KeepsDisk}
use Rattle.pos_disk.specs.declared.device.Disk.{Ghosts}
use Rattle.pos_image.specs.Layout.{disk_size, log_place, longest, start, other, layout_of}
use Rattle.pos_image.specs.DiskCalls.{Keeps, ClosesGate, KeepsBeside}
use Rattle.pos_image.specs.Slots.{IsCurrent, IsPrepared}
use Rattle.pos_image.specs.Standing.{HasImage, HasNewImage, ShowsImage, NoImage, DamagedImage, image_on, is_marked}
use Rattle.pos_image.specs.Standing.{log_of}
use Rattle.pos_image.specs.declared.fault.ImageFault.{ImageFault}
use Rattle.pos_image.specs.declared.fault.ImageFault.TheVariants as fault
use Rattle.pos_image.specs.declared.layout.Layout.TheVariants.{Layout1}
use Rattle.pos_image.specs.declared.slot.Slot.{Slot}
use Rattle.pos_image.specs.declared.slot.Slot.TheVariants.{Third}

-- An image that is prepared: the slot that it is in, its body and its sequence.
pub record Prepared : Type 0 where
  pub slot : Slot
  pub body : List ℕ
  pub sequence : ℕ

-- the image with these parts
abbrev pub image_of : Slot → List ℕ → ℕ → Prepared
image_of slot body sequence = record { slot = slot; body = body; sequence = sequence }

-- The disk, the slot of the current image, its body and sequence, and the image that is prepared.
pub record View (D : Type 0) : Type 0 where
  pub disk : D
  pub slot : Slot
  pub body : List ℕ
  pub sequence : ℕ
  pub prepared : Option Prepared

-- the images with these parts
abbrev pub images_of : {D : Type 0} → D → Slot → List ℕ → ℕ → Option Prepared → View D
images_of disk slot body sequence prepared =
    record { disk = disk; slot = slot; body = body; sequence = sequence; prepared = prepared }

-- The bytes of a log span, and the places of it, counted from its first, that a write has reached since the last sync.
pub record Span : Type 1 where
  pub bytes : List ℕ
  pub loose : ℕ → Type 0

-- the log span of the current slot
abbrev pub span_of : {D : Type 0} → View D → DiskState → Span
span_of images disk = record {
  bytes = log_of disk.reading;
  loose = λ i. disk.loose (start images.slot + log_place (layout_of images.slot) + i);
}

-- A crash may leave these bytes of a span.
pub record MayHold (span : Span) (bytes : List ℕ) : Type 0 where
  pub same_length : length bytes ≡ length span.bytes
  pub settled : (i : ℕ) → ¬ (span.loose i) → get_or bytes i 0 ≡ get_or span.bytes i 0

-- The bytes hold the current image, and behind it what a crash may leave of this span.
pub record KeepsImage {D : Type 0} (images : View D) (span : Span) (bytes : List ℕ) : Type 0 where
  pub image : ShowsImage (layout_of images.slot) images.body images.sequence bytes
  pub log : MayHold span (log_of bytes)

-- the next image with this body, in the slot beside the current one
abbrev pub next_image : {D : Type 0} → View D → List ℕ → Prepared
next_image images body = image_of (other images.slot) body (images.sequence + 1)

-- the image of layout 2 with this body that takes the place of one of layout 1
abbrev pub migrated_image : List ℕ → Prepared
migrated_image body = image_of Third body 1

-- it is the next image, or the first one of layout 2 beside one of layout 1
abbrev pub IsBeside : Slot → ℕ → Prepared → Type 0
IsBeside slot sequence it = ((it.slot ≡ other slot) × (it.sequence ≡ sequence + 1))
    ⊎ ((layout_of slot ≡ Layout1) × (it.slot ≡ Third) × (it.sequence ≡ 1))

-- The bytes hold this image, prepared beside the current one.
pub record HasPrepared (bytes : List ℕ) (slot : Slot) (sequence : ℕ) (it : Prepared) : Type 0 where
  pub there : IsPrepared bytes it.slot it.body it.sequence
  pub beside : IsBeside slot sequence it

-- The disk is at rest, and has the current image and the one that is prepared.
pub record IsSound (state : DiskState) {D : Type 0} (images : View D) : Type 0 where
  pub at_rest : IsAtRest state
  pub current : IsCurrent state.reading images.slot images.body images.sequence
  pub prepared : MatchOption images.prepared ⊤ (HasPrepared state.reading images.slot images.sequence)

-- The disk is large enough and, where it is honest, sound, and a crash now leaves the current image and its log alone.
-- After a fault of the disk images aren't ready, and can't be used but by `into_disk`.
pub record IsReady {D : Type 0} (bound : Ghosts D) (images : View D) : Type 0 where
  pub large : disk_size ≤ bound.size images.disk
  pub counted : images.sequence < 2 ^ 64
  pub sound : bound.honest images.disk → IsSound (bound.state images.disk) images
  pub leaves : bound.honest images.disk → (c : List ℕ) → MayLeave (bound.state images.disk) c
      → HasImage (layout_of images.slot) images.body images.sequence (log_of (bound.state images.disk).reading) c

-- the disk failed more often than before, or as often as can be counted
abbrev pub HasFailed : DiskState → DiskState → Type 0
HasFailed old new = Rises old.failures new.failures

-- the disk fails only where a disk fault is answered
abbrev pub CountsFaults : {T : Type 0} → DiskState → DiskState → Result T ImageFault → Type 0
CountsFaults old new result = IsErrOf result fault.Device ⊎ HasNotFailed old new

-- What preparing this image does, whether it copies the body or takes it over. Of the disk itself, and of what a crash
-- may leave, it speaks where the disk is honest.
pub record Prepares {D : Type 0} (bound : Ghosts D) (old : View D) (it : Prepared)
    (result : Result (Unit {0}) ImageFault) (new : View D) : Type 0 where
  pub ready : OnOk result (IsReady bound new)
  pub prepared : OnOk result (new ≡ record old { disk = new.disk; prepared = Some it })
  pub log : bound.honest old.disk
      → OnOk result (log_of (bound.state new.disk).reading ≡ log_of (bound.state old.disk).reading)
  pub gate : bound.honest old.disk
      → OnOk result (ClosesGate (start it.slot) (bound.state old.disk) (bound.state new.disk))
  -- whatever it answers, nothing but the gate, fields, body and log gate of its slot was written
  pub rest : bound.honest old.disk
      → KeepsBeside it.slot (length it.body) (bound.state old.disk) (bound.state new.disk)
  -- a crash at any moment of the call leaves the current image, and of its log what a crash before it may leave
  pub any_moment : bound.honest old.disk → LeavesOnly (bound.state old.disk) (bound.state new.disk)
      (KeepsImage old (span_of old (bound.state old.disk)))
  pub too_large : IsErrOf result fault.TooLarge ↔ (longest (layout_of it.slot) < length it.body)
  pub exhausted : IsErrOf result fault.Exhausted
      ↔ (length it.body ≤ longest (layout_of it.slot)) × (it.sequence ≡ 2 ^ 64)
  pub unchanged : IsErr result → IsErrOf result fault.Device ⊎ (new ≡ old)
  pub failed : IsErrOf result fault.Device → new ≡ record old { disk = new.disk }
  pub device : bound.honest old.disk → IsErrOf result fault.Device
      → Rises (bound.state old.disk).failures (bound.state new.disk).failures
  pub counts : bound.honest old.disk → CountsFaults (bound.state old.disk) (bound.state new.disk) result
  pub keeps : KeepsDisk bound old.disk new.disk

-- the image that is prepared, if there is one, or else this one
abbrev pub prepared_or : Prepared → Option Prepared → Prepared
prepared_or current None = current
prepared_or current (Some it) = it

-- the image that is the current one once what is prepared, if anything is, is published
abbrev pub next_of : {D : Type 0} → View D → Prepared
next_of images = prepared_or (image_of images.slot images.body images.sequence) images.prepared

-- with the prepared image as the current one
abbrev pub published : {D : Type 0} → View D → D → View D
published images disk =
    images_of disk (next_of images).slot (next_of images).body (next_of images).sequence None

-- while an image is published: the old one, with what a crash may leave of this span, or the new one with no log
abbrev pub HasEither : {D : Type 0} → View D → Span → Prepared → List ℕ → Type 0
HasEither images span it bytes = KeepsImage images span bytes
    ⊎ HasNewImage (layout_of it.slot) it.body it.sequence bytes

-- the gate of the prepared image was written, and nothing else
abbrev pub KeepsButGate : {D : Type 0} → View D → DiskState → DiskState → Type 0
KeepsButGate images old new = Keeps (start (next_of images).slot) 1 old new

-- the disk after `open`: that of the images, or the one that a refusal hands back
abbrev pub disk_after : {D : Type 0} → Result (View D) (ImageFault × D) → D
disk_after (Ok images) = images.disk
disk_after (Err refusal) = refusal.1

-- the disk after `format`
abbrev pub handed_back : {D : Type 0} → Result D (ImageFault × D) → D
handed_back (Ok disk) = disk
handed_back (Err refusal) = refusal.1

-- the answer of either without the disk that a refusal hands back
abbrev pub without_disk : {T D : Type 0} → Result T (ImageFault × D) → Result T ImageFault
without_disk (Ok made) = Ok made
without_disk (Err refusal) = Err refusal.0

-- why no image is found
abbrev pub IsFindFault : ImageFault → Type 0
IsFindFault it = (it ≡ fault.Unformatted) ⊎ (it ≡ fault.Damaged) ⊎ (it ≡ fault.Device) ⊎ (it ≡ fault.NoMemory)

-- why a disk isn't formatted, or not opened
abbrev pub IsFormatFault : ImageFault → Type 0
IsFormatFault it = (it ≡ fault.TooSmall) ⊎ (it ≡ fault.AlreadyFormatted) ⊎ (it ≡ fault.Device)

abbrev pub IsOpenFault : ImageFault → Type 0
IsOpenFault it = (it ≡ fault.TooSmall) ⊎ IsFindFault it

-- a disk is refused as formatted only where it was marked so
abbrev pub RefusesMarked : DiskState → ImageFault → Type 0
RefusesMarked old it = it ≡ fault.AlreadyFormatted → is_marked old.reading ≡ true

-- a disk that is marked as formatted is only looked at, whether it is refused so or failed
abbrev pub KeepsMarked : DiskState → DiskState → Type 0
KeepsMarked old new = is_marked old.reading ≡ true → Watches old new

-- a disk fault is answered only where the disk failed
abbrev pub FailsWithCause : DiskState → DiskState → ImageFault → Type 0
FailsWithCause old new it = it ≡ fault.Device → HasFailed old new

-- why an image isn't prepared, want of memory aside
abbrev pub IsPrepareFault : ImageFault → Type 0
IsPrepareFault it = (it ≡ fault.TooLarge) ⊎ (it ≡ fault.Exhausted) ⊎ (it ≡ fault.Device)

abbrev pub FailsFor : {D : Type 0} → Ghosts D → View D → View D → ImageFault → Type 0
FailsFor bound old new it = FailsWithCause (bound.state old.disk) (bound.state new.disk) it

-- bytes on which no image is found hold none
abbrev pub FindsNone : List ℕ → ImageFault → Type 0
FindsNone bytes it = ((it ≡ fault.Unformatted) ⊎ (it ≡ fault.TooSmall)) → image_on bytes ≡ NoImage

-- or a damaged one
abbrev pub FindsDamage : List ℕ → ImageFault → Type 0
FindsDamage bytes it = it ≡ fault.Damaged → image_on bytes ≡ DamagedImage
