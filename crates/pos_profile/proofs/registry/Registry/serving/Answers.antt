use Rattle.pos_profile.proofs.Common.{Device, Some, ap, arith, devices, gets, length, option_and_then, refl, slice_get}
use Rattle.pos_profile.proofs.Common.{standing_at, with_peripheral, ◌<◌, ◌∙◌, ◌≡◌}
use Rattle.pos_profile.specs.Lending.{registry_with}
use Rattle.pos_profile.proofs.RegistryLemmas.{devices_count, devices_set, served_kind, sound_with, standing_within}
use Rattle.pos_profile.proofs.RegistryLemmas.{device_at}
use Rattle.pos_profile.proofs.registry.Registry.serving.Goals as goal

pub returns : goal.returns
returns g c =
    let peripherals = g.P.Peripheral in
    let old = c.args.self.now in
    let place = c.args.place in
    let slots = old.slots.items in
    let list = devices peripherals old in
    let slot = c.index_mut.result.now in
    let within : place < length slots =
    omega (arith, devices_count peripherals slots, standing_within list place c.requires.served) in
    let at : slice_get slots place ≡ Some slot = grind (arith, gets) in
    let stands : standing_at list place ≡ Some (peripherals.state c.serving.result.now) =
    grind (arith, device_at peripherals slots place slot) in
    let goes_on : (left : g.row.P.Denot)
    → devices peripherals (registry_with old place left) ≡ with_peripheral list place (Some (peripherals.state left)) =
    λ left. rw at (devices_set peripherals slots place slot (Some left) c.index_mut.ensures.value) in (
      (refl, λ w. rw at refl),
      record {
        lends = tt;
        value = stands;
        is = ap (option_and_then (λ slot. slot.peripheral)) at ∙ c.serving.ensures.value;
        devices = goes_on;
        stays_sound = λ left stays. sound_with place (Some (peripherals.state left)) c.requires.sound refl
            (goes_on left) (λ (d : Device) is. (
              stays.unparked,
              stays.kind ∙ served_kind list place c.requires.sound.served is stands,
            ));
      },
    )
