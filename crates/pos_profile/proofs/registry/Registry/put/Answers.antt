use Rattle.pos_profile.proofs.Common.{Device, Some, arith, devices_of, gets, length, refl, slice_get_within}
use Rattle.pos_profile.proofs.Common.{◌<◌}
use Rattle.pos_profile.proofs.RegistryLemmas.{devices_count, devices_set, same_kind, sound_with}
use Rattle.pos_profile.proofs.registry.Registry.put.Goals as goal

pub returns-clause-served : goal.returns-clause-served
returns-clause-served g c =
    let slot = c.index_mut.result.now in
    rw c.replace.ensures.after (devices_set g.P.Peripheral c.args.self.now.slots.items c.args.place slot
    (Some c.args.peripheral) c.index_mut.ensures.value)

pub returns-clause-put : goal.returns-clause-put
returns-clause-put g c =
    let slots = c.args.self.now.slots.items in
    let count = devices_count g.P.Peripheral slots in
    let within : c.args.place < length (devices_of g.P.Peripheral slots) =
    slice_get_within (devices_of g.P.Peripheral slots) c.args.place c.requires.may_serve.device c.requires.may_serve.at
    in
    let inside : c.args.place < length slots = omega (arith, count, within) in
    record { slot = c.index_mut.result.now; at = grind (arith, gets); is = rw c.replace.ensures.after refl }

pub returns-clause-sound : goal.returns-clause-sound
returns-clause-sound g c =
    let may = c.requires.may_serve in
    sound_with c.args.place (Some (g.P.Peripheral.state c.args.peripheral)) c.requires.sound refl
    (returns-clause-served g c) (λ (d : Device) at. (
      c.requires.unparked,
      same_kind may at,
    ))
