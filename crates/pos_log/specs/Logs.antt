-- What contracts see of a log.
use Rattle.std.specs.Prelude.{◌≡◌, ◌↔◌, ◌⊎◌, ◌≤◌, ◌<◌, ◌+◌, ◌-◌, ◌^◌, ℕ, List, [], length, nat_le, if◌then◌else◌}
use Rattle.std.specs.Prelude.{Option, Some, None, Result, Ok, Err, OnOk, IsErr, IsErrOf}
use Rattle.pos_disk.specs.State.{DiskState, LeavesOnly, Rises, HasNotFailed}
use Rattle.pos_disk.specs.Keeps.{KeepsDisk}
use Rattle.pos_disk.specs.declared.device.Disk.{Ghosts}
use Rattle.pos_image.specs.DiskCalls.{Keeps}
use Rattle.pos_image.specs.Layout.{log_place, slot_size, longest, start, layout_of}
use Rattle.pos_image.specs.Standing.{ShowsImage, HasImage, log_of}
use Rattle.pos_image.specs.Images.{View, IsReady, CountsFaults}
use Rattle.pos_image.specs.declared.layout.Layout.{Layout}
use Rattle.pos_image.specs.declared.fault.ImageFault.{ImageFault}
use Rattle.pos_image.specs.declared.fault.ImageFault.TheVariants as images
use Rattle.pos_log.specs.Records.{HoldsRecords, HoldsMore, HoldsOldOrMore, tail_of, end_of}
use Rattle.pos_log.specs.declared.fault.LogFault.{LogFault}
use Rattle.pos_log.specs.declared.fault.LogFault.TheVariants as fault

-- The images, and the place in the current slot of the gate behind the last record.
pub record LogView (D : Type 0) : Type 0 where
  pub images : View D
  pub tail : ℕ

-- the log with these parts
abbrev pub log_over : {D : Type 0} → View D → ℕ → LogView D
log_over images tail = record { images = images; tail = tail }

-- the same log over the disk as it is now
abbrev pub over : {D : Type 0} → LogView D → D → LogView D
over log disk = log_over (record log.images { disk = disk }) log.tail

-- The images are ready and, where the disk is honest, the log span holds records up to the tail.
pub record IsLogReady {D : Type 0} (bound : Ghosts D) (log : LogView D) : Type 0 where
  pub images : IsReady bound log.images
  pub records : bound.honest log.images.disk → (groups : List (List ℕ))
      × HoldsRecords groups (log_of (bound.state log.images.disk).reading)
      × (log.tail ≡ tail_of (layout_of log.images.slot) groups)

-- how many bytes the longest group has that fits behind the tail by this layout, if an empty one fits
abbrev pub room_of : Layout → ℕ → Option ℕ
room_of layout tail =
    if nat_le (end_of tail 0) (slot_size layout) then Some (slot_size layout - end_of tail 0) else None

-- the disk fails only where its fault is answered
abbrev pub CountsLogFaults : {T : Type 0} → DiskState → DiskState → Result T LogFault → Type 0
CountsLogFaults old new result = IsErrOf result fault.Device ⊎ HasNotFailed old new

-- The current image is there, and behind it the records of this span, with one more or without.
pub record KeepsRecords (layout : Layout) (body : List ℕ) (sequence : ℕ) (span group bytes : List ℕ) : Type 0 where
  pub image : ShowsImage layout body sequence bytes
  pub log : HoldsOldOrMore span group (log_of bytes)

-- What an append does. Of the disk itself, and of what a crash may leave, it speaks where the disk is honest.
pub record Appends {D : Type 0} (bound : Ghosts D) (old : LogView D) (group : List ℕ)
    (result : Result (Unit {0}) LogFault) (new : LogView D) : Type 0 where
  -- at Ok nothing is loose: a crash now leaves the current image and these records
  pub ready : OnOk result (IsLogReady bound new)
  -- the images are the same but for the disk, and the tail lies behind the record
  pub appended : OnOk result
      (new ≡ log_over (record old.images { disk = new.images.disk }) (old.tail + 5 + length group))
  -- the records are the old ones and the appended one
  pub records : bound.honest old.images.disk → OnOk result
      (HoldsMore (log_of (bound.state old.images.disk).reading) group (log_of (bound.state new.images.disk).reading))
  -- a crash at any moment of the call leaves the current image and the old records, with the new one or without
  pub any_moment : bound.honest old.images.disk
      → LeavesOnly (bound.state old.images.disk) (bound.state new.images.disk)
      (KeepsRecords (layout_of old.images.slot) old.images.body old.images.sequence
      (log_of (bound.state old.images.disk).reading) group)
  -- whatever it answers, nothing but the record and the gate behind it was written
  pub rest : bound.honest old.images.disk → Keeps (start old.images.slot + old.tail) (6 + length group)
      (bound.state old.images.disk) (bound.state new.images.disk)
  -- it is full exactly where the record and the gate behind it don't fit
  pub full : IsErrOf result fault.Full ↔ (slot_size (layout_of old.images.slot) < end_of old.tail (length group))
  pub unchanged : IsErr result → IsErrOf result fault.Device ⊎ (new ≡ old)
  pub failed : IsErrOf result fault.Device → new ≡ over old new.images.disk
  pub device : bound.honest old.images.disk → IsErrOf result fault.Device
      → Rises (bound.state old.images.disk).failures (bound.state new.images.disk).failures
  pub counts : bound.honest old.images.disk
      → CountsLogFaults (bound.state old.images.disk) (bound.state new.images.disk) result
  pub keeps : KeepsDisk bound old.images.disk new.images.disk

-- The current image of the bytes, by this layout, has this body and sequence, and no record is behind it.
pub record HasNoRecords (layout : Layout) (body : List ℕ) (sequence : ℕ) (bytes : List ℕ) : Type 0 where
  pub image : ShowsImage layout body sequence bytes
  pub log : HoldsRecords [] (log_of bytes)

-- the old image with its log, or the new one, by its layout, with this sequence and no record
abbrev pub HasOldOrNew : {D : Type 0} → View D → List ℕ → Layout → List ℕ → ℕ → List ℕ → Type 0
HasOldOrNew images span layout body sequence bytes =
    HasImage (layout_of images.slot) images.body images.sequence span bytes
    ⊎ HasNoRecords layout body sequence bytes

-- What a new image in the place of the current one does, by this layout and with this sequence. Of the disk itself, and
-- of what a crash may leave, it speaks where the disk is honest.
pub record Renews {D : Type 0} (bound : Ghosts D) (old : LogView D) (layout : Layout) (body : List ℕ) (sequence : ℕ)
    (result : Result (Unit {0}) ImageFault) (new : LogView D) : Type 0 where
  pub ready : OnOk result (IsLogReady bound new)
  pub layout_is : OnOk result (layout_of new.images.slot ≡ layout)
  pub body_is : OnOk result (new.images.body ≡ body)
  pub sequence_is : OnOk result (new.images.sequence ≡ sequence)
  pub tail_is : OnOk result (new.tail ≡ log_place layout)
  pub image : bound.honest old.images.disk → OnOk result
      (HasNoRecords layout body sequence (bound.state new.images.disk).reading)
  -- a crash at any moment of the call leaves the old body and log, or the new body and no record
  pub any_moment : bound.honest old.images.disk
      → LeavesOnly (bound.state old.images.disk) (bound.state new.images.disk)
      (HasOldOrNew old.images (log_of (bound.state old.images.disk).reading) layout body sequence)
  pub too_large : IsErrOf result images.TooLarge ↔ (longest layout < length body)
  pub exhausted : IsErrOf result images.Exhausted ↔ (length body ≤ longest layout) × (sequence ≡ 2 ^ 64)
  pub unchanged : IsErr result → IsErrOf result images.Device ⊎ (new ≡ old)
  pub same_layout : IsErr result → layout_of new.images.slot ≡ layout_of old.images.slot
  pub device : bound.honest old.images.disk → IsErrOf result images.Device
      → Rises (bound.state old.images.disk).failures (bound.state new.images.disk).failures
  pub counts : bound.honest old.images.disk
      → CountsFaults (bound.state old.images.disk) (bound.state new.images.disk) result
  pub keeps : KeepsDisk bound old.images.disk new.images.disk

-- the images after `open`: those of the log, or those that a refusal hands back
abbrev pub images_after : {D X : Type 0} → Result (LogView D × X) (LogFault × View D) → View D
images_after (Ok opened) = opened.0.images
images_after (Err refusal) = refusal.1

-- its answer without the images that a refusal hands back
abbrev pub without_images : {D X : Type 0} → Result X (LogFault × View D) → Result X LogFault
without_images (Ok opened) = Ok opened
without_images (Err refusal) = Err refusal.0

-- why a log isn't opened
abbrev pub IsOpenFault : LogFault → Type 0
IsOpenFault it = (it ≡ fault.Damaged) ⊎ (it ≡ fault.Device) ⊎ (it ≡ fault.NoMemory)
