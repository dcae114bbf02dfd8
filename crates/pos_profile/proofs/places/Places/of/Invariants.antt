use Rattle.pos_profile.proofs.Common.{List, looked_up, map, place_of, take, ℕ, ◌≡◌}
use Rattle.pos_profile.proofs.places.Places.of.Given as goal

-- the map finds the names so far, each at its first place
abbrev pub invariant-loop-place : goal.invariant-loop-place
invariant-loop-place l = (name : List ℕ)
    → looked_up l.places name ≡ place_of (take l.place (map (λ planned. planned.name) l.plan)) name
