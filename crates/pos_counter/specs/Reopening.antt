-- What an enabling finds after a crash has left a disk that stands for some files (chapter Hard Totals).
use Rattle.std.specs.Prelude.{◌≡◌, ◌⊎◌, ℕ, true, List, [], ◌∷◌, Some, length}
use Rattle.pos_dir.specs.declared.file.File.{File as PlainFile}
use Rattle.pos_disk.specs.State.{Rises}
use Rattle.pos_image.specs.declared.layout.Layout.{Layout}
use Rattle.pos_service.specs.declared.answer.Answer.TheVariants as answer
use Rattle.pos_service.specs.declared.answer.Value.TheVariants as value
use Rattle.pos_service.specs.declared.call.Call.{Call}
use Rattle.pos_service.specs.declared.call.Call.TheVariants as call
use Rattle.pos_service.specs.declared.code.Code.TheVariants as code
use Rattle.pos_service.specs.declared.property.Property.TheVariants as property
use Rattle.pos_service.specs.Controls.{Control}
use Rattle.pos_service.specs.Refusals.{first_refusal}
use Rattle.pos_store.specs.Standing.{Stands}
use Rattle.pos_totals.specs.HardTotals.{Ready}
use Rattle.pos_totals.specs.Recoveries.{AreLeft, numbered}
use Rattle.pos_counter.specs.Machine.{Machine}
use Rattle.pos_counter.specs.Steps.{Response, Answered, OutOfMemory, refusals}
use Rattle.pos_counter.specs.Totals.{TotalsPart}

-- DeviceEnabled is set to true
abbrev pub enabling : Call
enabling = call.Set property.DeviceEnabled (value.Truth true)

-- The totals have the layout and these very files, in this order, with the handles from the next one on. A crash leaves
-- only these, and the disk hasn't failed.
pub record HasThem (layout : Layout) (files : List PlainFile) (sequence : ℕ) (old new : TotalsPart) : Type 0 where
  pub found : new.totals.layout ≡ layout
  pub mode : new.totals.mode ≡ Ready (numbered old.totals.next files) sequence
  pub left : new.left ≡ Stands layout files sequence ∷ []
  pub counts : new.failures ≡ old.failures

-- the disk failed, or fewer handles are left than there are files
abbrev pub HasCause : List PlainFile → TotalsPart → TotalsPart → Type 0
HasCause files old new = Rises old.failures new.failures ⊎ (¬ (AreLeft old.totals.next (length files)))

-- What the enabling of a control comes to over totals that are off, whose disk stands for these files. It finds them,
-- or it fails for a cause. Or a row of its table refuses it or memory runs out, and nothing has changed.
abbrev pub FindsThem : Layout → List PlainFile → ℕ → Machine → ℕ → Control → Response → Machine → Type 0
FindsThem layout files sequence old number control (Answered (answer.Done given)) new =
    HasThem layout files sequence old.totals new.totals
FindsThem layout files sequence old number control (Answered (answer.Refused why extended)) new =
    ((first_refusal (refusals old number control enabling) ≡ Some (answer.Refused why extended)) × (new ≡ old))
    ⊎ ((why ≡ code.Failure) × (extended ≡ 0) × HasCause files old.totals new.totals)
FindsThem layout files sequence old number control OutOfMemory new = new ≡ old
FindsThem layout files sequence old number control other new = ⊥
