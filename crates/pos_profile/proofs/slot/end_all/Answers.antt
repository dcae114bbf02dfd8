use Rattle.pos_profile.proofs.Common.{IfSome, List, Some, [], ap, device_of, devices_of, map, map-append, true, ◌++◌}
use Rattle.pos_profile.proofs.Common.{◌∙◌, ◌∷◌, ◌≡◌}
use Rattle.std.proofs.lemmas.List.Elements.{All-pop}
use Rattle.pos_profile.specs.Registries.{AreParked, Device}
use Rattle.pos_profile.specs.declared.slot.Slot.{Slot}
use Rattle.pos_service.specs.declared.peripheral.Peripheral.{Ghosts}
use Rattle.pos_profile.proofs.slot.end_all.Goals as goal

abbrev IsParked : Device → Type 0
IsParked device = IfSome device.peripheral (λ state. state.is_parked ≡ true)

-- the last of some slots is out of service, and so are those before it
last_parked : {P : Type 0} (peripherals : Ghosts P) (all before : List (Slot P)) (last : Slot P)
    → all ≡ before ++ last ∷ [] → AreParked (devices_of peripherals all)
    → AreParked (devices_of peripherals before) × IsParked (device_of peripherals last)
last_parked peripherals all before last is parked =
    All-pop IsParked (devices_of peripherals all) (devices_of peripherals before) (Some (device_of peripherals last))
    (ap (map (device_of peripherals)) is ∙ map-append (device_of peripherals) before (last ∷ [])) parked

pub end-requires : goal.end-requires
end-requires g c =
    let last = last_parked g.P.Peripheral _ _ _ c.in-Some.ensures.items c.loop-entry.invariant in
    rw c.in-Some-peripheral.is at last.1

pub loop-entry-preserved-in-Some-peripheral : goal.loop-entry-preserved-in-Some-peripheral
loop-entry-preserved-in-Some-peripheral g c =
    (last_parked g.P.Peripheral _ _ _ c.in-Some.ensures.items c.loop-entry.invariant).0

pub loop-entry-preserved : goal.loop-entry-preserved
loop-entry-preserved g c = (last_parked g.P.Peripheral _ _ _ c.in-Some.ensures.items c.loop-entry.invariant).0
