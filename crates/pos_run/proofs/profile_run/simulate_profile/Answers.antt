use Rattle.pos_run.proofs.Common.{None, Some, [], ap, arith, length, machine, map, map-append, option_map}
use Rattle.pos_run.proofs.Common.{simulated_all, simulated_for, subst, sym, take, take_all, ◌∙◌, ◌∷◌, ◌≡◌, ◌≤◌}
use Rattle.pos_run.proofs.DeviceLemmas.{begins_partly, ends_whole, serves_more, skips}
use Rattle.pos_run.proofs.ProfileLemmas.{all_serve, one_more, simulable, spares_more}
use Rattle.pos_run.proofs.MountLemmas.{mounted_as, offered_mounted, spares_mounted, vacant_mounted}
use Rattle.pos_run.specs.Simulations.{IsMountedFor}
use Rattle.pos_run.proofs.profile_run.simulate_profile.Goals as goal

pub loop-entry-init : goal.loop-entry-init
loop-entry-init g c = record {
  sound = c.in-Ok.ensures.sound;
  totals = c.in-Ok.ensures.begins.totals;
  served = λ part. c.in-Ok.ensures.begins.machine part ∙ begins_partly c.args.profile.now.devices part;
  mounted = vacant_mounted g.M.Mount.mounts c.args.profile.now.devices c.in-Ok.ensures.begins;
}

pub simulate_mounted-requires : goal.simulate_mounted-requires
simulate_mounted-requires g c = simulable c.args.profile.now.devices c.is_profile.ensures.devices
    (rw c.devices-entry-items.ensures at c.loop-entry-test.true) (rw c.devices-entry-items.ensures at c.entry-item.is)

pub loop-entry-preserved-in_default-made : goal.loop-entry-preserved-in_default-made
loop-entry-preserved-in_default-made g c =
    let entry = c.entry-item.result in
    let none : simulated_for entry ≡ None =
    sym c.in-Ok-simulate_mounted.ensures.state ∙ ap (option_map g.P.Peripheral.state) c.in_default-made.is in
    record {
      sound = c.loop-entry.invariant.sound;
      totals = c.loop-entry.invariant.totals;
      served = λ part. c.loop-entry.invariant.served part
          ∙ skips c.args.profile.now.devices c.loop-entry.entry-index entry (rw c.devices-entry-items.ensures
          at c.loop-entry-test.true) (rw c.devices-entry-items.ensures at c.entry-item.is) part none;
      mounted = c.loop-entry.invariant.mounted;
    }

pub loop-entry-preserved : goal.loop-entry-preserved
loop-entry-preserved g c =
    let entry = c.entry-item.result in
    let state = g.P.Peripheral.state c.in-Some.peripheral in
    let some : simulated_for entry ≡ Some state =
    sym c.in-Ok-simulate_mounted.ensures.state ∙ ap (option_map g.P.Peripheral.state) c.in-Some.is in
    let step = c.offer.ensures.step in
    let mounts = g.M.Mount.mounts in
    let entries = c.args.profile.now.devices in
    let there : IsMountedFor mounts entry c.in-Some.peripheral =
    rw c.in-Some.is at c.in-Ok-simulate_mounted.ensures.mounted in
    record {
      sound = c.offer.ensures.sound;
      totals = step.1.totals ∙ c.loop-entry.invariant.totals;
      served = λ part. serves_more c.args.profile.now.devices c.loop-entry.entry-index entry
          (rw c.devices-entry-items.ensures at c.loop-entry-test.true)
          (rw c.devices-entry-items.ensures at c.entry-item.is) part (machine g.P.Peripheral c.loop-entry.counter part)
          (machine g.P.Peripheral c.offer.new.counter part) state step.0 some
          (c.is_profile.ensures.names c.loop-entry.entry-index) (c.loop-entry.invariant.served part)
          (rw c.as_bytes.ensures at (step.1.step part));
      mounted = offered_mounted mounts entries c.offer.ensures.puts
          (mounted_as mounts entries (rw c.devices-entry-items.ensures at c.loop-entry-test.true)
          (rw c.devices-entry-items.ensures at c.entry-item.is) c.as_bytes.ensures there)
          c.loop-entry.invariant.mounted;
    }

pub simulate_mounted-requires-in-loop-entry-2 : goal.simulate_mounted-requires-in-loop-entry-2
simulate_mounted-requires-in-loop-entry-2 g c = simulable c.args.profile.now.spares c.is_profile.ensures.spares
    (rw c.spares-entry-items.ensures at c.loop-entry-2-test.true)
    (rw c.spares-entry-items.ensures at c.entry-item-in-loop-entry-2.is)

pub loop-entry-2-preserved : goal.loop-entry-2-preserved
loop-entry-2-preserved g c =
    let state = option_map g.P.Peripheral.state in
    let front = c.loop-entry-2.spares.items in
    let made = c.in-Ok-simulate_mounted-2.made in
    let spares = c.args.profile.now.spares in
    let i = c.loop-entry-2.entry-index in
    let entry = c.entry-item-in-loop-entry-2.result in
    let mounts = g.M.Mount.mounts in
    record {
      mounted = rw (
        c.push_reserved.ensures.items,
        one_more spares i entry (rw c.spares-entry-items.ensures at c.loop-entry-2-test.true)
            (rw c.spares-entry-items.ensures at c.entry-item-in-loop-entry-2.is),
      ) (spares_mounted mounts
          (take i spares) front entry made c.loop-entry-2.invariant.mounted c.in-Ok-simulate_mounted-2.ensures.mounted);
      states = rw (c.push_reserved.ensures.items, map-append state front (made ∷ []))
          (spares_more c.args.profile.now.spares c.loop-entry-2.entry-index c.entry-item-in-loop-entry-2.result
          (rw c.spares-entry-items.ensures at c.loop-entry-2-test.true)
          (rw c.spares-entry-items.ensures at c.entry-item-in-loop-entry-2.is) (map state front)
          (state made) c.loop-entry-2.invariant.states c.in-Ok-simulate_mounted-2.ensures.state);
      count = omega (arith, c.push_reserved.ensures.len, c.loop-entry-2.invariant.count);
      room = omega (arith, c.push_reserved.ensures.capacity, c.loop-entry-2.invariant.room);
    }

pub new-requires-3 : goal.new-requires-3
new-requires-3 g c =
    let spares = c.args.profile.now.spares in
    let i = c.loop-entry-2.entry-index in
    let all : length spares ≤ i =
    subst (λ xs. length xs ≤ i) c.spares-entry-items.ensures (omega (arith, c.loop-entry-2-test.false)) in
    rw (c.loop-entry-2.invariant.states, take_all i spares all) (all_serve spares)

pub returns-clause-made : goal.returns-clause-made
returns-clause-made g c =
    let profile = c.args.profile.now in
    let i = c.loop-entry.entry-index in
    let j = c.loop-entry-2.entry-index in
    let all : length profile.devices ≤ i =
    subst (λ xs. length xs ≤ i) c.devices-entry-items.ensures (omega (arith, c.loop-entry-test.false)) in
    let every : length profile.spares ≤ j =
    subst (λ xs. length xs ≤ j) c.spares-entry-items.ensures (omega (arith, c.loop-entry-2-test.false)) in
    record {
      served = λ part. c.loop-entry.invariant.served part ∙ ends_whole profile.devices part all;
      totals = c.loop-entry.invariant.totals;
      left = c.new-3.ensures.spares ∙ c.loop-entry-2.invariant.states
          ∙ ap simulated_all (take_all j profile.spares every);
      sound = c.loop-entry.invariant.sound;
      in_service = c.new-3.ensures.sound;
    }
