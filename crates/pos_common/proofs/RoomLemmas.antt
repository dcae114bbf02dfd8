-- The room of a control that has heard, or that something less is asked of.
use Rattle.pos_common.proofs.Common.{HasRoom, KeptControl, arith, heard_signs, if_listening, sign_events, ℕ, ◌+◌, ◌≡◌}
use Rattle.pos_common.proofs.Common.{◌≤◌}
use Rattle.pos_service.specs.declared.signs.Signs.{Signs}

-- what is left of the room of a control that has heard a change of signs
pub room_left : (place : ℕ) {count : ℕ} (was is : Signs) (old : KeptControl) {new : KeptControl}
    → new.control ≡ if_listening place (heard_signs was is) old.control → old.spare ≤ new.spare + sign_events
    → HasRoom place (sign_events + count) old → HasRoom place count new
room_left place was is old heard spare room = λ l. grind (arith, room)
