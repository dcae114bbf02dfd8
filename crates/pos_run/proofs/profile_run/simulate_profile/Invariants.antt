use Rattle.pos_run.proofs.Common.{IsCounterSound, TotalsPart, length, machine, off_over, simulated_all, states_in, take}
use Rattle.pos_run.proofs.Common.{vec_capacity, vec_len, ◌≡◌, ◌≤◌}
use Rattle.pos_run.proofs.DeviceLemmas.{begun_partly}
use Rattle.pos_counter.specs.KeptDevices.{slots_in}
use Rattle.pos_run.specs.Simulations.{AreSparesMounted, HasMounted}
use Rattle.std.specs.List.{AllByRecursion}
use Rattle.pos_run.proofs.profile_run.simulate_profile.Given as goal

-- the devices so far are served
abbrev pub invariant-loop-entry : goal.invariant-loop-entry
invariant-loop-entry g l = record {
  sound : IsCounterSound g.P.Peripheral l.counter;
  totals : l.counter.totals ≡ off_over l.fn.disk;
  served : (part : TotalsPart)
      → machine g.P.Peripheral l.counter part ≡ begun_partly l.fn.profile.devices l.entry-index part;
  mounted : AllByRecursion (HasMounted g.M.Mount.mounts l.fn.profile.devices) (slots_in l.counter.devices);
}

-- the spares so far are there
abbrev pub invariant-loop-entry-2 : goal.invariant-loop-entry-2
invariant-loop-entry-2 g l = record {
  mounted : AreSparesMounted g.M.Mount.mounts (take l.entry-index l.fn.profile.spares) l.spares.items;
  states : states_in g.P.Peripheral l.spares.items ≡ simulated_all (take l.entry-index l.fn.profile.spares);
  count : vec_len l.spares ≤ l.entry-index;
  room : length l.fn.profile.spares ≤ vec_capacity l.spares;
}
