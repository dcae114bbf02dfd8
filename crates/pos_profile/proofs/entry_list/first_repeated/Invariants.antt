use Rattle.pos_profile.proofs.Common.{Bor, List, false, is_repeated, map, names_of, take, ℕ, ◌<◌, ◌≡◌}
use Rattle.pos_profile.proofs.entry_list.first_repeated.Given as goal

-- the set has the names so far, and none of them stands at an earlier place
abbrev pub invariant-loop-place : goal.invariant-loop-place
invariant-loop-place l = record {
  so_far : map (λ (name : Bor (List ℕ)). name.now) l.names.keys ≡ take l.place (names_of l.entries);
  single : (n : ℕ) → n < l.place → is_repeated (names_of l.entries) n ≡ false;
}
