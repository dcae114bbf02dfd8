use Rattle.pos_sims.proofs.Common.{take, with_run_at, ◌≡◌}
use Rattle.pos_sims.proofs.text_layout.put_characters.Given as goal

-- the characters so far are put
abbrev pub invariant-loop-place : goal.invariant-loop-place
invariant-loop-place l = l.cells ≡ with_run_at l.at l.attribute (take l.place l.characters) l.fn.cells
