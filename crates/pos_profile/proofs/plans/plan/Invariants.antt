use Rattle.pos_profile.proofs.Common.{length, planned_of, take, vec_capacity, vec_len, ◌≡◌, ◌≤◌}
use Rattle.pos_profile.proofs.plans.plan.Given as goal

-- the entries so far are planned
abbrev pub invariant-loop-entry : goal.invariant-loop-entry
invariant-loop-entry l = record {
  so_far : l.plan.items ≡ planned_of (take l.entry-index l.entries);
  count : vec_len l.plan ≤ l.entry-index;
  room : length l.entries ≤ vec_capacity l.plan;
}
