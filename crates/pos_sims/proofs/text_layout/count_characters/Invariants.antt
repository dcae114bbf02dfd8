use Rattle.pos_sims.proofs.Common.{is_character, list_all, take, true, ◌≡◌}
use Rattle.pos_sims.proofs.text_layout.count_characters.Given as goal

abbrev pub invariant-loop-place : goal.invariant-loop-place
invariant-loop-place l = list_all is_character (take l.place l.bytes) ≡ true
