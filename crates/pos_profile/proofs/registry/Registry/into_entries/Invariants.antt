use Rattle.pos_profile.proofs.Common.{devices, devices_of, drop, length, map, parked, take, ◌++◌, ◌≡◌}
use Rattle.pos_profile.proofs.registry.Registry.into_entries.Given as goal

-- the devices before the place are out of service, and the others as they were
abbrev pub invariant-loop-place : goal.invariant-loop-place
invariant-loop-place g l =
    let before = devices g.P.Peripheral l.fn.self in
    record {
      front : devices_of g.P.Peripheral l.slots.items ≡ map parked (take l.place before) ++ drop l.place before;
      whole : length l.slots.items ≡ length l.fn.self.slots.items;
    }
