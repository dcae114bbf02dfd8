-- What a new image in the place of the current one does to images.
use Rattle.std.specs.Prelude.{◌≡◌, ◌↔◌, ◌⊎◌, ◌≤◌, ◌<◌, ◌^◌, length, Result, OnOk, IsErr, IsErrOf}
use Rattle.pos_disk.specs.State.{LeavesOnly, Rises}
use Rattle.pos_disk.specs.Keeps.{KeepsDisk}
use Rattle.pos_disk.specs.declared.device.Disk.{Ghosts}
use Rattle.pos_image.specs.Images.{View, Prepared, IsReady, CountsFaults, HasEither, image_of, span_of}
use Rattle.pos_image.specs.Layout.{longest, layout_of}
use Rattle.pos_image.specs.Standing.{HasNewImage}
use Rattle.pos_image.specs.declared.fault.ImageFault.{ImageFault}
use Rattle.pos_image.specs.declared.fault.ImageFault.TheVariants as fault

-- What preparing this image and publishing it does. Of the disk itself, and of what a crash may leave, it speaks where
-- the disk is honest.
pub record Replaces {D : Type 0} (bound : Ghosts D) (old : View D) (it : Prepared)
    (result : Result (Unit {0}) ImageFault) (new : View D) : Type 0 where
  pub ready : OnOk result (IsReady bound new)
  pub published : OnOk result (image_of new.slot new.body new.sequence ≡ it)
  pub log : bound.honest old.disk → OnOk result
      (HasNewImage (layout_of it.slot) it.body it.sequence (bound.state new.disk).reading)
  pub any_moment : bound.honest old.disk → LeavesOnly (bound.state old.disk) (bound.state new.disk)
      (HasEither old (span_of old (bound.state old.disk)) it)
  pub too_large : IsErrOf result fault.TooLarge ↔ (longest (layout_of it.slot) < length it.body)
  pub exhausted : IsErrOf result fault.Exhausted
      ↔ (length it.body ≤ longest (layout_of it.slot)) × (it.sequence ≡ 2 ^ 64)
  pub unchanged : IsErr result → IsErrOf result fault.Device ⊎ (new ≡ old)
  pub same_slot : IsErr result → new.slot ≡ old.slot
  pub device : bound.honest old.disk → IsErrOf result fault.Device
      → Rises (bound.state old.disk).failures (bound.state new.disk).failures
  pub counts : bound.honest old.disk → CountsFaults (bound.state old.disk) (bound.state new.disk) result
  pub keeps : KeepsDisk bound old.disk new.disk
