use Rattle.pos_profile.proofs.Common.{built_entry, length, map, take, vec_capacity, vec_len, ◌≡◌, ◌≤◌}
use Rattle.pos_profile.proofs.built.make_devices.Given as goal

-- a device of each category so far, and there is room for the others
abbrev pub invariant-loop-category : goal.invariant-loop-category
invariant-loop-category l = record {
  so_far : l.devices.items ≡ map built_entry (take l.category-index l.category-items);
  count : vec_len l.devices ≡ l.category-index;
  room : length l.category-items ≤ vec_capacity l.devices;
}
