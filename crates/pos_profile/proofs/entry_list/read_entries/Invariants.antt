use Rattle.pos_profile.proofs.Common.{Some, entry_of, false, is_refused, length, map, take, vec_capacity, vec_len, view}
use Rattle.pos_profile.proofs.Common.{ℕ, ◌<◌, ◌≡◌, ◌≤◌}
use Rattle.pos_profile.proofs.entry_list.read_entries.Given as goal

-- the entries so far are those that the values so far are, and none of them is refused
abbrev pub invariant-loop-place : goal.invariant-loop-place
invariant-loop-place l =
    let found = map (entry_of l.role) (map view l.values) in
    record {
      so_far : map (λ entry. Some entry) l.entries.items ≡ take l.place found;
      sound : (n : ℕ) → n < l.place → is_refused found n ≡ false;
      count : vec_len l.entries ≡ l.place;
      room : length l.values ≤ vec_capacity l.entries;
    }
