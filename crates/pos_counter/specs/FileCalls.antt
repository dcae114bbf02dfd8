-- What the totals of a counter do with their own calls.
use Rattle.std.specs.Prelude.{◌≡◌, ◌⊎◌, ◌&&◌, not, ℕ, true, List, MatchOption, Result, slice_get}
use Rattle.pos_service.specs.declared.answer.Answer.{Answer}
use Rattle.pos_service.specs.declared.call.Call.{Call}
use Rattle.pos_service.specs.declared.faults.NoMemory.{NoMemory}
use Rattle.pos_totals.specs.HardTotals.{Mode, is_ready}
use Rattle.pos_totals.specs.TotalsCalls.{file_call}
use Rattle.pos_common.specs.KeptControls.{KeptControl, controls_of}
use Rattle.pos_disk.specs.State.{LeavesOnly}
use Rattle.pos_disk.specs.declared.device.Disk.{Ghosts}
use Rattle.pos_store.specs.Standing.{Standing, StandsForEither}
use Rattle.pos_disk.specs.Keeps.{KeepsDisk}
use Rattle.pos_totals.specs.Changes.{IsDone}
use Rattle.pos_totals.specs.Views.{TotalsView, TurnsOff}
use Rattle.pos_service.specs.declared.answer.Value.{Value}
use Rattle.pos_service.specs.declared.property.Property.{Property}
use Rattle.pos_counter.specs.DiskUse.{SparesFiles}
use Rattle.pos_counter.specs.Totals.{FilesCalled, asks_recovery, settled}
use Rattle.pos_counter.specs.Leaving.{part_of, part_with, IsSettled, Leaves}

-- A call of the totals' own on an enabled control, by what the disk may leave before it.
pub record FilesStepped {D : Type 0} (bound : Ghosts D) (left : List Standing) (before : TotalsView D) (number : ℕ)
    (asked : Call) (outcome : Result Answer NoMemory) (now : TotalsView D) : Type 0 where
  pub after : List Standing
  pub leaves : Leaves bound now after
  pub answer : FilesCalled number asked (part_of bound before left) outcome (part_of bound now after)
  pub any_moment : LeavesOnly (bound.state before.disk) (bound.state now.disk) (StandsForEither left after)

-- A call of the totals' own on an enabled control that leaves the disk alone: it is answered for whatever the machine
-- has of the disk, which stays.
pub record IsQuiet {D : Type 0} (before : TotalsView D) (number : ℕ) (asked : Call) (outcome : Result Answer NoMemory)
    (now : TotalsView D) : Type 0 where
  pub disk : now.disk ≡ before.disk
  pub is_settled : (left : List Standing)
      → settled now.totals.layout now.totals.mode left ≡ settled before.totals.layout before.totals.mode left
  pub answer : (left : List Standing) (failures : ℕ) → IsSettled before.totals left
      → FilesCalled number asked (part_with before.totals left failures) outcome (part_with now.totals left failures)

-- One that has changes to put on the disk, for all that the disk may leave before it.
pub record PutsThere {D : Type 0} (bound : Ghosts D) (before : TotalsView D) (number : ℕ) (asked : Call)
    (outcome : Result Answer NoMemory) (now : TotalsView D) : Type 0 where
  pub uses : ¬ (SparesFiles before.totals number (file_call asked))
  pub steps : (left : List Standing) → Leaves bound before left
      → FilesStepped bound left before number asked outcome now
  -- the disk isn't touched if the call isn't done, except in a fault of the disk
  pub unchanged : ¬ (IsDone outcome) → TurnsOff before.totals.mode now.totals.mode ⊎ (now.disk ≡ before.disk)
  pub kept : KeepsDisk bound before.disk now.disk

-- what the totals do with a call of their own on an enabled control
abbrev pub CallsFiles : {D : Type 0} → Ghosts D → TotalsView D → ℕ → Call → Result Answer NoMemory → TotalsView D
    → Type 0
CallsFiles bound before number asked outcome now =
    IsQuiet before number asked outcome now ⊎ PutsThere bound before number asked outcome now

-- setting the property of the control that a number has recovers totals of this mode
abbrev pub IsRecovering : List KeptControl → ℕ → Property → Value → Mode → Type 0
IsRecovering helds number p v mode =
    MatchOption (slice_get (controls_of helds) number) ⊥
    (λ control. (asks_recovery control p v && not (is_ready mode)) ≡ true)
