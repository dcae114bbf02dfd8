use Rattle.std.proofs.Common.{◌≡◌, ◌≤◌, length, take}
use Rattle.pos_profile.proofs.places.is_same.Given as goal

abbrev pub invariant-loop-place : goal.invariant-loop-place
invariant-loop-place l = (l.place ≤ length l.one) × (take l.place l.one ≡ take l.place l.other)
