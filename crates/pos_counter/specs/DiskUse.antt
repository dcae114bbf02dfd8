-- Which requests and calls leave the disk of the totals alone (chapter Hard Totals).
use Rattle.std.specs.Prelude.{◌≡◌, ◌⊎◌, ℕ, false, true, [], MatchOption, IsSome, Some, ⊤, slice_get}
use Rattle.pos_service.specs.declared.answer.Answer.TheVariants as answer
use Rattle.pos_service.specs.declared.call.Call.{Call}
use Rattle.pos_service.specs.declared.call.Call.TheVariants as call
use Rattle.pos_service.specs.declared.answer.Value.TheVariants as value
use Rattle.pos_service.specs.declared.context.OpenDevice.TheVariants as open_device
use Rattle.pos_service.specs.declared.property.Property.TheVariants as property
use Rattle.pos_service.specs.Controls.{Control}
use Rattle.pos_service.specs.Properties.{after_set}
use Rattle.pos_totals.specs.HardTotals.{Totals}
use Rattle.pos_service.specs.Refusals.{first_refusal}
use Rattle.pos_totals.specs.TotalsCalls.{FileCall, file_call, file_rows}
use Rattle.pos_counter.specs.History.{changes_asked}
use Rattle.pos_counter.specs.Machine.{Machine, signs_at, with_control}
use Rattle.pos_counter.specs.Steps.{Request, CallOf, Response, Answered, refusals}
use Rattle.pos_counter.specs.Totals.{TotalsPart, recovers}

-- a call that the totals refuse, or that has no changes to put on the disk: it is a question, an arrangement, a change
-- that is buffered, or a commit of nothing
abbrev pub SparesFiles : Totals → ℕ → FileCall → Type 0
SparesFiles totals number asked =
    IsSome (first_refusal (file_rows totals number asked)) ⊎ (changes_asked totals number asked ≡ [])

-- the call of a control asks nothing of the disk: it recovers no totals that are off, and has no changes to put there
abbrev pub AsksNothing : TotalsPart → ℕ → Control → Call → Type 0
AsksNothing part number control (call.Set p v) = recovers part control p v ≡ false
AsksNothing part number control asked = changes_asked part.totals number (file_call asked) ≡ []

-- the control, once it is enabled
abbrev pub after_enabling : Machine → Control → Control
after_enabling machine control =
    after_set (signs_at machine control) control property.DeviceEnabled (value.Truth true)

-- a request that leaves the disk alone: it isn't the call of a control, or a row of the call's table refuses it, or it
-- asks nothing of the disk
abbrev pub SparesDisk : Machine → Request → Type 0
SparesDisk machine (CallOf number asked) = MatchOption (slice_get machine.controls number) ⊤ (λ control.
    IsSome (first_refusal (refusals machine number control asked))
    ⊎ AsksNothing machine.totals number control asked)
SparesDisk machine other = ⊤

-- The request is the call of a control that has the Hard Totals open, and nothing changes but the totals, and that the
-- control may be enabled.
abbrev pub ChangesTotalsAlone : Machine → Request → Machine → Type 0
ChangesTotalsAlone old (CallOf number asked) new = MatchOption (slice_get old.controls number) ⊥ (λ control.
    (control.device ≡ Some open_device.Totals)
    × ((new ≡ record old { totals = new.totals })
    ⊎ (new ≡ record (with_control old number (after_enabling old control)) { totals = new.totals })))
ChangesTotalsAlone old other new = ⊥

-- the response acknowledges no call: it refuses one, reports that memory ran out, or answers another request
abbrev pub IsUndone : Response → Type 0
IsUndone (Answered (answer.Done given)) = ⊥
IsUndone other = ⊤
