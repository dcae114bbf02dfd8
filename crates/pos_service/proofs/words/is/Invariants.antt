use Rattle.std.proofs.Common.{◌≡◌, ◌≤◌, length, take}
use Rattle.pos_service.proofs.words.is.Given as goal

abbrev pub invariant-loop-place : goal.invariant-loop-place
invariant-loop-place l = (l.place ≤ length l.text) × (take l.place l.word ≡ take l.place l.text)
