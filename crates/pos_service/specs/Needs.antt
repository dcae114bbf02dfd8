-- What calls and properties ask of a control before anything else, in the one order that each table begins with (common
-- chapter, sharable and exclusive-use devices).
use Rattle.std.specs.Prelude.{ℕ, Bool, true, false, not, ◌&&◌, List, ◌∷◌, Option, is_none}
use Rattle.pos_service.specs.declared.code.Code.TheVariants as code
use Rattle.pos_service.specs.declared.needs.ClaimNeed.{ClaimNeed}
use Rattle.pos_service.specs.declared.needs.ClaimNeed.TheVariants as claim_need
use Rattle.pos_service.specs.declared.needs.Needs.{Needs}
use Rattle.pos_service.specs.Claims.{is_foreign}
use Rattle.pos_service.specs.Controls.{Control}
use Rattle.pos_service.specs.Refusals.{Row, when}

-- it asks that no other control holds the device
abbrev pub needs_no_other : ClaimNeed → Bool
needs_no_other claim_need.Any = false
needs_no_other need = true

-- it asks that somebody holds the device
abbrev pub needs_holder : ClaimNeed → Bool
needs_holder claim_need.Own = true
needs_holder need = false

-- The table of what is asked of the control with a number, whose device has this holder: that it is open, that its
-- category has it, the claim, that the device is enabled, and then the rest.
abbrev pub table : ℕ → Option ℕ → Control → Needs → List Row → List Row
table number holder control needs rest =
    when (needs.is_open && is_none control.device) code.Closed
    ∷ when (not needs.is_there) code.Illegal
    ∷ when (needs_no_other needs.claim && is_foreign number holder) code.Claimed
    ∷ when (needs_holder needs.claim && is_none holder) code.NotClaimed
    ∷ when (needs.is_enabled && not control.enabled) code.Disabled
    ∷ rest
