-- The printed paper of a device is taken away.
use Rattle.pos_counter.proofs.Common.{Err, List, None, Ok, Option, PeripheralState, Registered, Result, Some, [], ap}
use Rattle.pos_counter.proofs.Common.{refl, standing_at, suc, with_peripheral, zero, ℕ, ◌∙◌, ◌∷◌, ◌≡◌}
use Rattle.pos_counter.proofs.Common.{AllByRecursion, IsServed, MatchResult, hardware_of}
use Rattle.pos_common.specs.KeptControls.{KeptControl}
use Rattle.pos_counter.proofs.DeviceListLemmas.{done_there}
use Rattle.pos_counter.proofs.HostsLemmas.{same_peripheral}
use Rattle.pos_counter.proofs.Common.{Hardware, IsSound, Machine}
use Rattle.pos_counter.proofs.SoundnessLemmas.{on_hardware_sound}
use Rattle.pos_counter.specs.AtDevices.{IsDoneAt}
use Rattle.pos_counter.specs.Hosts.{Host, changed_at, changed_host}
use Rattle.pos_counter.specs.KeptDevices.{devices_of}
use Rattle.pos_counter.specs.Paper.{IsTorn}
use Rattle.pos_counter.specs.Steps.{OnHardware}
use Rattle.pos_drive.specs.Papers.{TearsOff}
use Rattle.pos_service.specs.declared.faults.NoMemory.{NoMemory}

-- what becomes of the devices
pub torn_there : (list : List Registered) {new : List Registered} (place : ℕ) {was : PeripheralState}
    (now : PeripheralState) (outcome : Result (Unit {0}) NoMemory) → AllByRecursion IsServed list
    → standing_at list place ≡ Some was → new ≡ with_peripheral list place (Some now) → TearsOff was outcome now
    → (helds : List KeptControl)
    → MatchResult outcome (λ done. IsDoneAt (devices_of list) place IsTorn helds helds (devices_of new))
    (λ want. devices_of new ≡ devices_of list)
torn_there list place {was} now (Ok done) served stands is torn helds =
    done_there list place was now IsTorn served stands is (refl, ap hardware_of torn)
torn_there list place now (Err want) served stands is same helds = ap devices_of
    (is ∙ ap (λ s. with_peripheral list place (Some s)) same ∙ same_peripheral list place stands)

-- a device that stands to its host as it did
same_host : (host : Host) → changed_host (λ c. c) host ≡ host
same_host (name, None) = refl
same_host (name, Some c) = refl

pub same_at : (hosts : List Host) (place : ℕ) → changed_at (λ c. c) place hosts ≡ hosts
same_at [] place = refl
same_at (host ∷ hosts) zero = ap (λ h. h ∷ hosts) (same_host host)
same_at (host ∷ hosts) (suc place) = ap (λ hs. host ∷ hs) (same_at hosts place)

-- a machine is sound behind it
pub torn_sound : {m m' : Machine} {at : Option ℕ} → OnHardware m at (λ place. IsTorn) m' → IsSound m → IsSound m'
torn_sound {m} torn sound = on_hardware_sound m (λ place. IsTorn) (λ place before new after stands does. record {
  kind = ap (λ (h : Hardware). h.kind) does.1;
  seats = λ all. rw does.0 all;
}) torn sound
