use Rattle.pos_profile.proofs.Common.{arith, sym}
use Rattle.pos_profile.proofs.RegistryLemmas.{devices_count, device_at, names_count}
use Rattle.pos_profile.proofs.PlaceLemmas.{place_within}
use Rattle.pos_profile.proofs.registry.Registry.named.Goals as goal

pub index-requires : goal.index-requires
index-requires g c = grind (arith, devices_count, names_count, place_within)

pub returns-clause-device : goal.returns-clause-device
returns-clause-device g c = grind (arith, device_at, devices_count, names_count, place_within)

pub returns-clause-named : goal.returns-clause-named
returns-clause-named g c = record {
  place = c.in_ok-place.place;
  found = sym c.in_ok-place.ensures;
  at = returns-clause-device g c;
}
