use Rattle.pos_profile.proofs.Common.{devices_of, length, map, vacant, vec_capacity, vec_len, ◌++◌, ◌+◌, ◌≡◌, ◌≤◌}
use Rattle.std.specs.Vec.Iter.{into_iter_items}
use Rattle.pos_profile.proofs.registry.fill.Given as goal

-- the devices so far, and those that are left, are the plan, and there is room for those that are left
abbrev pub invariant-loop-planned : goal.invariant-loop-planned
invariant-loop-planned g l = record {
  so_far : devices_of g.P.Peripheral l.slots.items ++ map vacant (into_iter_items l.planned-iterator)
      ≡ map vacant l.fn.plan.items;
  room : vec_len l.slots + length (into_iter_items l.planned-iterator) ≤ vec_capacity l.slots;
}
