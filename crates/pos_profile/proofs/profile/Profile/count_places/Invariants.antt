use Rattle.pos_profile.proofs.Common.{length, planned_of, take, ◌≡◌, ◌≤◌}
use Rattle.pos_profile.proofs.profile.Profile.count_places.Given as goal

-- the entries so far are counted
abbrev pub invariant-loop-entry : goal.invariant-loop-entry
invariant-loop-entry l = record {
  so_far : l.count ≡ length (planned_of (take l.entry-index l.fn.self.devices));
  most : l.count ≤ l.entry-index;
}
