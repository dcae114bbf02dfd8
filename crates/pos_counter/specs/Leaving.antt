-- What a crash may leave of a counter's disk, before, in and after a step.
use Rattle.std.specs.Prelude.{◌≡◌, ℕ, List}
use Rattle.pos_disk.specs.State.{LeavesOnly}
use Rattle.pos_disk.specs.declared.device.Disk.{Ghosts}
use Rattle.pos_store.specs.Standing.{Standing, LeavesOneOf, StandsForEither}
use Rattle.pos_totals.specs.HardTotals.{Totals}
use Rattle.pos_totals.specs.Views.{TotalsView}
use Rattle.pos_counter.specs.Machine.{Machine}
use Rattle.pos_counter.specs.Steps.{Request, Response, Step}
use Rattle.pos_counter.specs.Totals.{TotalsPart, settled}

-- what totals are to the machine, whatever their disk is, if a crash may leave these, and the disk has failed this
-- often
abbrev pub part_with : Totals → List Standing → ℕ → TotalsPart
part_with totals left failures = record { totals = totals; left = left; failures = failures }

-- what totals and their disk are to the machine, if a crash may leave bytes that stand for these
abbrev pub part_of : {D : Type 0} → Ghosts D → TotalsView D → List Standing → TotalsPart
part_of bound view left = part_with view.totals left (bound.state view.disk).failures

-- a crash may leave what stands for these: while the totals are ready, only for their files
abbrev pub IsSettled : Totals → List Standing → Type 0
IsSettled totals left = left ≡ settled totals.layout totals.mode left

-- The disk is honest, and what a crash leaves of it now stands for one of these: while the totals are ready, for their
-- files.
pub record Leaves {D : Type 0} (bound : Ghosts D) (view : TotalsView D) (left : List Standing) : Type 0 where
  pub honest : bound.honest view.disk
  pub leaves : LeavesOneOf left (bound.state view.disk)
  pub is_settled : IsSettled view.totals left

-- A step, by what the disk may leave before it: a crash at any moment leaves what may be left before the step or after
-- it, and a crash now what may be left after it.
pub record Stepped {D : Type 0} (bound : Ghosts D) (left : List Standing) (old : TotalsPart → Machine)
    (before : TotalsView D) (request : Request) (response : Response) (new : TotalsPart → Machine) (now : TotalsView D)
    : Type 0 where
  pub after : List Standing
  pub leaves : Leaves bound now after
  pub step : Step (old (part_of bound before left)) request response (new (part_of bound now after))
  pub any_moment : LeavesOnly (bound.state before.disk) (bound.state now.disk) (StandsForEither left after)

-- A step that spares the disk, whatever the disk is, honest or not: it isn't touched, and the step is one for whatever
-- the machine has of it, which stays.
pub record Spared {D : Type 0} (left : List Standing) (failures : ℕ) (old : TotalsPart → Machine)
    (before : TotalsView D) (request : Request) (response : Response) (new : TotalsPart → Machine) (now : TotalsView D)
    : Type 0 where
  pub disk : now.disk ≡ before.disk
  pub step : IsSettled before.totals left
      → Step (old (part_with before.totals left failures)) request response (new (part_with now.totals left failures))
  pub is_settled : IsSettled before.totals left → IsSettled now.totals left
