-- What serves the devices of a counter, and the spares, is mounted for entries of a profile.
use Rattle.pos_run.proofs.Common.{Counter, Device, Entry, Ghosts, IfSome, List, None, Option, Some, [], ap, device_for}
use Rattle.pos_run.proofs.Common.{get_or, inl, inr, kind_of, length, map, new_totals, option_map, refl, set, subst, suc}
use Rattle.pos_run.proofs.Common.{sym, zero, ℕ, ◌++◌, ◌<◌, ◌∙◌, ◌∷◌, ◌≡◌}
use Rattle.pos_counter.specs.KeptDevices.{device_of, slots_in}
use Rattle.pos_counter.specs.Machine.{Machine}
use Rattle.pos_counter.specs.Counters.{Begins}
use Rattle.pos_profile.specs.Registries.{devices_of}
use Rattle.pos_profile.specs.declared.slot.Slot.{Slot}
use Rattle.pos_run.specs.Simulations.{AreSparesMounted, HasMounted, IsMountedAs, IsMountedFor, Mounts, Offers}
use Rattle.pos_service.specs.Hardware.{hardware_of}
use Rattle.std.proofs.lemmas.Option.{slice_get-get_or}
use Rattle.std.proofs.Common.{⊎_elim}
use Rattle.std.specs.List.{AllByRecursion, filter_map}
use Rattle.pos_run.proofs.DeviceLemmas.{all_vacant, some_or_none}

-- ---- at first every device is vacant

abbrev IsVacant : Device → Type 0
IsVacant device = device.hardware ≡ None

entries_vacant : (entries : List Entry) → AllByRecursion IsVacant (filter_map (λ entry. device_for None entry) entries)
entries_vacant [] = tt
entries_vacant (entry ∷ entries) = elim (some_or_none (kind_of entry)) [
  | inl none ↦ rw none (entries_vacant entries)
  | inr some ↦ rw some.1 (refl, entries_vacant entries)
]

module _ {P : Type 0} (mounts : Mounts P) (entries : List Entry) where
  -- a slot of a vacant device has nothing
  has_none : (peripherals : Ghosts P) (slot : Slot P)
      → option_map hardware_of (option_map peripherals.state slot.peripheral) ≡ None → HasMounted mounts entries slot
  has_none peripherals slot none = by slot.peripheral refl
    where
      by : (o : Option P) → slot.peripheral ≡ o → HasMounted mounts entries slot
      by None is = rw is tt
      by (Some peripheral) is = absurd (let bad = rw is at none in cc)

  all_vacant_slots : (peripherals : Ghosts P) (slots : List (Slot P))
      → AllByRecursion IsVacant (map device_of (devices_of peripherals slots))
      → AllByRecursion (HasMounted mounts entries) slots
  all_vacant_slots peripherals [] all = tt
  all_vacant_slots peripherals (slot ∷ slots) all =
      (has_none peripherals slot all.0, all_vacant_slots peripherals slots all.1)

  pub vacant_mounted : {D : Type 0} {peripherals : Ghosts P} {counter : Counter D P} {disk : D}
      → Begins peripherals entries disk counter → AllByRecursion (HasMounted mounts entries) (slots_in counter.devices)
  vacant_mounted {peripherals} {counter} begins =
      let same = ap (λ (m : Machine). m.devices) (begins.machine (new_totals [] 0)) in
      all_vacant_slots peripherals (slots_in counter.devices)
      (subst (AllByRecursion IsVacant) (sym (same ∙ all_vacant entries)) (entries_vacant entries))

  -- ---- one more device is served

  all_set : (slots : List (Slot P)) (place : ℕ) (slot : Slot P) → AllByRecursion (HasMounted mounts entries) slots
      → HasMounted mounts entries slot → AllByRecursion (HasMounted mounts entries) (set slots place slot)
  all_set [] place slot all one = tt
  all_set (first ∷ slots) zero slot all one = (one, all.1)
  all_set (first ∷ slots) (suc place) slot all one = (all.0, all_set slots place slot all.1 one)

  pub offered_mounted : {old new : List (Slot P)} {name : List ℕ} {peripheral : P} → Offers old name peripheral new
      → IsMountedAs mounts entries name peripheral → AllByRecursion (HasMounted mounts entries) old
      → AllByRecursion (HasMounted mounts entries) new
  offered_mounted {old} {peripheral} offers mounted all =
      ⊎_elim (λ placed. rw placed.1.is (all_set old placed.0 (record placed.1.slot { peripheral = Some peripheral }) all
      (subst (λ (n : List ℕ). IsMountedAs mounts entries n peripheral) (sym placed.2) mounted)))
      (λ same. rw same all) offers

  -- what is mounted for an entry serves as that of its name
  pub mounted_as : {i : ℕ} {entry : Entry} {name : List ℕ} {peripheral : P} → i < length entries
      → entry ≡ get_or entries i entry → name ≡ entry.name → IsMountedFor mounts entry peripheral
      → IsMountedAs mounts entries name peripheral
  mounted_as {i} {entry} lt is named mounted = record {
    place = i;
    entry = entry;
    entry_is = slice_get-get_or entries i entry lt ∙ ap (λ (e : Entry). Some e) (sym is);
    named = sym named;
    mounted = mounted;
  }

-- ---- one more spare is there

pub spares_mounted : {P : Type 0} (mounts : Mounts P) (entries : List Entry) (spares : List (Option P)) (entry : Entry)
    (spare : Option P) → AreSparesMounted mounts entries spares → IfSome spare (IsMountedFor mounts entry)
    → AreSparesMounted mounts (entries ++ entry ∷ []) (spares ++ spare ∷ [])
spares_mounted mounts [] [] entry spare all one = (one, tt)
spares_mounted mounts (first ∷ entries) (one_there ∷ spares) entry spare all one =
    (all.0, spares_mounted mounts entries spares entry spare all.1 one)
spares_mounted mounts [] (one_there ∷ spares) entry spare all one = absurd all
spares_mounted mounts (first ∷ entries) [] entry spare all one = absurd all
