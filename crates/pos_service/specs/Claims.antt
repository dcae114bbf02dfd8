-- Claims: which control holds each device (common chapter, methods claim and release).
use Rattle.std.specs.Prelude.{ℕ, ℤ, pos, negsuc, Bool, true, false, not, nat_eq, List, [], ◌∷◌, Option, Some, None}
use Rattle.std.specs.Prelude.{is_none, slice_index_or, slice_set, if◌then◌else◌}
use Rattle.pos_service.specs.declared.category.Category.{Category}
use Rattle.pos_service.specs.Categories.{is_exclusive}
use Rattle.pos_service.specs.declared.code.Code.TheVariants as code
use Rattle.pos_service.specs.Controls.{Control, stopped}
use Rattle.pos_service.specs.Refusals.{Row, when}

-- The table of claims has the control that holds each device, by the devices' places; None is nobody.

-- the control that holds the device at a place: nobody if there is none, as of a closed control and of the Hard Totals
abbrev pub holder_at : List (Option ℕ) → Option ℕ → Option ℕ
holder_at claims None = None
holder_at claims (Some place) = slice_index_or claims place None

-- the control with a number is the holder
abbrev pub is_own : ℕ → Option ℕ → Bool
is_own number None = false
is_own number (Some holder) = nat_eq holder number

-- there is a holder, and it is another control than the one with the number
abbrev pub is_foreign : ℕ → Option ℕ → Bool
is_foreign number None = false
is_foreign number (Some holder) = not (nat_eq holder number)

-- the table, once the control with a number has claimed its device
abbrev pub claimed_by : List (Option ℕ) → Option ℕ → ℕ → List (Option ℕ)
claimed_by claims None number = claims
claimed_by claims (Some place) number = slice_set claims place (Some number)

-- the table, once the control with a number has released or closed its device: nobody holds it where the control did
abbrev pub released_by : List (Option ℕ) → Option ℕ → ℕ → List (Option ℕ)
released_by claims None number = claims
released_by claims (Some place) number =
    if is_own number (slice_index_or claims place None) then slice_set claims place None else claims

-- the time for which a claim may be waited for: any number of milliseconds, or -1 for no end
abbrev pub is_timeout : ℤ → Bool
is_timeout (pos n) = true
is_timeout (negsuc n) = nat_eq n 0

-- claim, where the device is taken by another control or not
abbrev pub claim_rows : Control → Bool → ℤ → List Row
claim_rows control is_taken timeout =
    when (is_none control.device) code.Closed
    ∷ when (not (is_timeout timeout)) code.Illegal
    ∷ when is_taken code.Timeout ∷ []

-- release, where the control holds the device or not
abbrev pub release_rows : Control → Bool → List Row
release_rows control is_held =
    when (is_none control.device) code.Closed
    ∷ when (not is_held) code.Illegal ∷ []

-- A control of a category, once it has released its device. A release of a sharable device changes the table alone: the
-- control is as it was, enabled or not, with its events. One of an exclusive-use device disables it and deletes its
-- events.
abbrev pub after_release : Category → Control → Control
after_release category control = if is_exclusive category then stopped control else control
