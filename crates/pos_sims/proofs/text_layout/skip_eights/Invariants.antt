use Rattle.pos_sims.proofs.Common.{is_character, length, list_all, take, true, ◌-◌, ◌≡◌, ◌≤◌}
use Rattle.pos_sims.proofs.text_layout.skip_eights.Given as goal

abbrev pub invariant-loop-place : goal.invariant-loop-place
invariant-loop-place l = (l.place ≤ length l.bytes) × (list_all is_character (take l.place l.bytes) ≡ true)

abbrev pub decreases-loop-place : goal.decreases-loop-place
decreases-loop-place l = length l.bytes - l.place
