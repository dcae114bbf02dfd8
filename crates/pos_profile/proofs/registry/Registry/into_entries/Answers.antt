use Rattle.pos_profile.proofs.Common.{arith, devices, length, length-set, sym, ◌<◌, ◌∙◌, ◌≡◌, ◌≤◌}
use Rattle.pos_profile.proofs.RegistryLemmas.{all_parked, devices_count, parked_more, parked_whole}
use Rattle.pos_profile.proofs.registry.Registry.into_entries.Goals as goal

pub loop-place-preserved : goal.loop-place-preserved
loop-place-preserved g c =
    let slots = c.loop-place.slots.items in
    let olds = devices g.P.Peripheral c.args.self in
    let count = devices_count g.P.Peripheral c.args.self.slots.items in
    let whole : length slots ≡ length olds = c.loop-place.invariant.whole ∙ sym count in
    let within : c.loop-place.place < length olds = omega (arith, count, c.args.self.slots.ok.0) in
    record {
      front = parked_more g.P.Peripheral slots olds c.park.new.self within whole c.loop-place.invariant.front
          c.index_mut.ensures.value c.park.ensures;
      whole = length-set slots c.loop-place.place c.park.new.self ∙ c.loop-place.invariant.whole;
    }

pub returns-clause-entries : goal.returns-clause-entries
returns-clause-entries g c =
    let olds = devices g.P.Peripheral c.args.self in
    let all : length olds ≤ c.loop-place.place =
    omega (arith, devices_count g.P.Peripheral c.args.self.slots.items, c.args.self.slots.ok.0) in
    parked_whole olds all c.loop-place.invariant.front

pub returns-clause-parked : goal.returns-clause-parked
returns-clause-parked g c = rw (returns-clause-entries g c) (all_parked (devices g.P.Peripheral c.args.self))
