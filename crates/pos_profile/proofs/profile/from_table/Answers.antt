use Rattle.pos_profile.proofs.Common.{Entry, arith, contents_of, length-map, refl}
use Rattle.pos_profile.proofs.ListLemmas.{name_at, repeated_within}
use Rattle.pos_profile.proofs.DocumentLemmas.{profile_sound}
use Rattle.pos_profile.proofs.profile.from_table.Goals as goal

pub invariant_of-result : goal.invariant_of-result
invariant_of-result c =
    let found = rw c.in-Ok-None.field-0-is at c.in-Ok-None.ensures in
    let single = rw c.deref.ensures.value at found in
    profile_sound c.in-Ok.ensures single

pub returns-in-Ok-Some : goal.returns-in-Ok-Some
returns-in-Ok-Some c =
    let devices = c.in-Ok.lists.devices.items in
    let found = rw c.in-Ok-Some.field-0-is at c.in-Ok-Some.ensures in
    let first = rw c.deref.ensures.value at found in
    let within = repeated_within _ c.in-Ok-Some.place first.here in
    record {
      contents = contents_of c.in-Ok.lists;
      read = c.in-Ok.ensures;
      place = c.in-Ok-Some.place;
      first = first;
      name_is = name_at devices _ c.swap_remove.result _
          (omega (arith, within, length-map devices (λ (e : Entry). e.name))) c.swap_remove.ensures.value refl;
    }
