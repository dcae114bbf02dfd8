-- The devices of a profile, which are served one after another by what is simulated for them.
use Rattle.pos_run.proofs.Common.{Attach, Attached, Device, Entry, Hardware, Kind, List, Machine, None, NotAttached}
use Rattle.pos_run.proofs.Common.{Option, PeripheralState, Response, Some, Step, TotalsPart, [], ap, append-nil}
use Rattle.pos_run.proofs.Common.{append_assoc, arith, bytes_eq, bytes_eq-Decides, cond, device_at}
use Rattle.pos_run.proofs.Common.{device_for, device_with, drop, drop_all, drop_more, false, false≢true, get_or}
use Rattle.pos_run.proofs.Common.{hardware_in, hardware_named, hardware_of, inl, inr, is_some, kind_in, kind_named}
use Rattle.pos_run.proofs.Common.{kind_of, length, machine_with, map, new_device, or_parts, place_of, refl, simulated_machine}
use Rattle.pos_run.proofs.Common.{replicate, simulated_devices, simulated_for, slice_get, suc, sym, take, take-map}
use Rattle.pos_run.proofs.Common.{take_all, true, with_standing, ℕ, ◌++◌, ◌+◌, ◌<◌, ◌∙◌, ◌∷◌, ◌≡◌, ◌≤◌, ◌⊎◌}
use Rattle.pos_counter.specs.KeptDevices.{device_of, profile_devices, totals_name}
use Rattle.pos_profile.specs.Places.{place_from}
use Rattle.pos_profile.proofs.ListLemmas.{name_at}
use Rattle.pos_profile.specs.Profiles.{is_repeated, names_of}
use Rattle.pos_profile.specs.Registries.{vacant_devices}
use Rattle.pos_service.specs.declared.faults.AttachFault.{AttachFault}
use Rattle.std.proofs.Math.Seq.{set-append_seam}
use Rattle.std.proofs.lemmas.List.Elements.{filter_map-append}
use Rattle.std.proofs.lemmas.Option.{none-some}
use Rattle.std.specs.List.{filter_map, list_any}
use Rattle.std.specs.Option.{option_map}
use Rattle.pos_service.specs.declared.faults.AttachFault.TheVariants as attach
use Rattle.pos_run.proofs.ProfileLemmas.{one_more}

-- what two options have, where they are the same
the_same : {A : Type 0} {a b : A} → Some a ≡ Some b → a ≡ b
the_same same = cc

-- an option has something or nothing
pub some_or_none : {A : Type 0} (o : Option A) → (o ≡ None) ⊎ ((x : A) × (o ≡ Some x))
some_or_none None = inl refl
some_or_none (Some x) = inr (x, refl)

-- a peripheral of its kind isn't refused at a vacant device
no_refusal : {old new : Machine} (name : List ℕ) {hardware : Hardware} (fault : AttachFault) {given : Hardware}
    → kind_named old name ≡ Some hardware.kind → hardware_named old name ≡ None
    → Step old (Attach name hardware) (NotAttached fault given) new → ⊥
no_refusal name {hardware} attach.Unknown is vacant (none, gave, same) = none-some hardware.kind (sym none ∙ is)
no_refusal name attach.KindDiffers is vacant (other, gave, same) = other.differs (the_same (sym is ∙ other.named))
no_refusal name attach.InUse is vacant (there, gave, same) = false≢true (ap is_some (sym vacant) ∙ there)

module _ (old new : Machine) (name : List ℕ) (hardware : Hardware) (place : ℕ) (device : Device)
    (found : place_of old.devices name ≡ Some place) (there : slice_get old.devices place ≡ Some device)
    (is : device.kind ≡ hardware.kind) (vacant : device.hardware ≡ None) where
  named : device_at old.devices (place_of old.devices name) ≡ Some device
  named = ap (device_at old.devices) found ∙ there

  -- so it stands there then
  stands : (response : Response) → Step old (Attach name hardware) response new
      → new ≡ with_standing old place device (Some hardware)
  stands Attached done =
      let at : done.place ≡ place = the_same (sym done.is_at ∙ found) in
      let of : done.device ≡ device = the_same (sym done.is_device ∙ ap (slice_get old.devices) at ∙ there) in
      done.machine ∙ rw (at, of)
  stands (NotAttached fault given) step =
      absurd (no_refusal name fault (ap kind_in named ∙ ap (λ k. Some k) is) (ap hardware_in named ∙ vacant) step)
  stands _ step = absurd step

-- the device of an entry, served
abbrev served : Entry → Option Device
served entry = device_for (simulated_for entry) entry

-- the device of an entry, vacant
abbrev unserved : Entry → Option Device
unserved entry = device_for None entry

-- the devices of some entries served, and those of the others vacant
abbrev partly : List Entry → List Entry → List Device
partly front back = filter_map served front ++ filter_map unserved back

-- the machine where so many of the entries' devices are served
abbrev pub begun_partly : List Entry → ℕ → TotalsPart → Machine
begun_partly entries i part = machine_with [] (replicate (length (profile_devices entries)) None)
    (partly (take i entries) (drop i entries)) (totals_name entries) part

-- at first all are vacant
pub all_vacant : (entries : List Entry) → map device_of (vacant_devices entries) ≡ filter_map unserved entries
all_vacant [] = refl
all_vacant (entry ∷ entries) = elim (some_or_none (kind_of entry)) [
  | inl none ↦ rw none (all_vacant entries)
  | inr some ↦ rw some.1 (ap (λ (ds : List Device). device_with entry.name some.0 None ∷ ds) (all_vacant entries))
]

pub begins_partly : (entries : List Entry) (part : TotalsPart)
    → machine_with [] (replicate (length (profile_devices entries)) None) (profile_devices entries)
    (totals_name entries) part ≡ begun_partly entries 0 part
begins_partly entries part = ap (λ (ds : List Device). machine_with []
    (replicate (length (profile_devices entries)) None) ds (totals_name entries) part) (all_vacant entries)

-- as many are served in the end as were vacant at first
as_many : (entries : List Entry) → length (filter_map unserved entries) ≡ length (filter_map served entries)
as_many [] = refl
as_many (entry ∷ entries) = elim (some_or_none (kind_of entry)) [
  | inl none ↦ rw none (as_many entries)
  | inr some ↦ rw some.1 (ap (λ (n : ℕ). suc n) (as_many entries))
]

-- in the end all are served
pub ends_whole : (entries : List Entry) {i : ℕ} (part : TotalsPart) → length entries ≤ i
    → begun_partly entries i part ≡ simulated_machine entries part
ends_whole entries {i} part all =
    let count : length (profile_devices entries) ≡ length (simulated_devices entries) =
    ap length (all_vacant entries) ∙ as_many entries in
    rw (take_all i entries all, drop_all i entries all, append-nil, count)

abbrev name_of : Device → List ℕ
name_of device = device.name

-- a device whose name no entry before it has is found behind them
found_behind : (name : List ℕ) (front : List Entry) (at : ℕ) (device : Device) (back : List Device)
    → list_any (bytes_eq name) (names_of front) ≡ false → bytes_eq name device.name ≡ true → place_from
    at name (map name_of (filter_map served front ++ device ∷ back)) ≡ Some (at + length (filter_map served front))
found_behind name [] at device back none same =
    ap (λ b. cond b (Some at) (place_from (at + 1) name (map name_of back))) same ∙ ap (λ (n : ℕ). Some n) (omega arith)
found_behind name (entry ∷ front) at device back none same =
    let parts = or_parts (bytes_eq name entry.name) _ none in
    elim (some_or_none (kind_of entry)) [
      | inl nothing ↦ rw nothing (found_behind name front at device back parts.1 same)
      | inr some ↦ rw (some.1, parts.0)
          (found_behind name front (at + 1) device back parts.1 same ∙ ap (λ (n : ℕ). Some n) (omega arith))
    ]

-- what stands behind some devices
there_behind : (front : List Device) (device : Device) (back : List Device)
    → slice_get (front ++ device ∷ back) (length front) ≡ Some device
there_behind [] device back = refl
there_behind (first ∷ front) device back = there_behind front device back

-- what is simulated of a kind is of that kind, and there is nothing only where there is no kind
kind_fits : {kind : Option Kind} (lines : ℕ) {state : PeripheralState}
    → option_map (λ is. new_device is lines) kind ≡ Some state → kind ≡ Some state.kind
kind_fits lines is = grind arith

no_kind : {kind : Option Kind} (lines : ℕ) → option_map (λ is. new_device is lines) kind ≡ None → kind ≡ None
no_kind lines is = grind arith

-- the name of an entry isn't that of an earlier one
unnamed_before : (entries : List Entry) {i : ℕ} {entry : Entry} → i < length entries → entry ≡ get_or entries i entry
    → is_repeated (names_of entries) i ≡ false → list_any (bytes_eq entry.name) (names_of (take i entries)) ≡ false
unnamed_before entries {i} {entry} lt is single =
    rw (← take-map (λ (e : Entry). e.name) i entries) (rw (name_at entries i entry entry.name lt is refl) at single)

module _ (entries : List Entry) (i : ℕ) (entry : Entry) (lt : i < length entries)
    (is : entry ≡ get_or entries i entry) where
  abbrev front : List Device
  front = filter_map served (take i entries)

  abbrev back : List Device
  back = filter_map unserved (drop (i + 1) entries)

  -- the entries from this one on
  one_less : drop i entries ≡ entry ∷ drop (i + 1) entries
  one_less = drop_more entries i entry lt ∙ ap (λ (e : Entry). e ∷ drop (i + 1) entries) (sym is)

  served_more : filter_map served (take (i + 1) entries) ≡ front ++ filter_map served (entry ∷ [])
  served_more = ap (filter_map served) (one_more entries i entry lt is)
      ∙ filter_map-append served (take i entries) (entry ∷ [])

  -- Hard Totals are served by nothing
  pub skips : (part : TotalsPart) → simulated_for entry ≡ None
      → begun_partly entries i part ≡ begun_partly entries (i + 1) part
  skips part simulated =
      let none : kind_of entry ≡ None = no_kind entry.lines simulated in
      rw (one_less, served_more, none, append-nil)

  -- one more device is served
  pub serves_more : (part : TotalsPart) (old new : Machine) (state : PeripheralState) (response : Response)
      → simulated_for entry ≡ Some state → is_repeated (names_of entries) i ≡ false → old ≡ begun_partly entries i part
      → Step old (Attach entry.name (hardware_of state)) response new → new ≡ begun_partly entries (i + 1) part
  serves_more part old new state response simulated single begun step =
      let kind : kind_of entry ≡ Some state.kind = kind_fits entry.lines simulated in
      let vacant = device_with entry.name state.kind None in
      let full = device_with entry.name state.kind (Some state) in
      let over = λ (ds : List Device). machine_with [] (replicate (length (profile_devices entries)) None) ds
      (totals_name entries) part in
      let one : filter_map served (entry ∷ []) ≡ full ∷ [] = rw (simulated, kind) in
      let before : old ≡ over (front ++ vacant ∷ back) = begun ∙ rw (one_less, kind) in
      let found : place_of (front ++ vacant ∷ back) entry.name ≡ Some (length front) =
      found_behind entry.name (take i entries) 0 vacant back (unnamed_before entries lt is single)
      ((bytes_eq-Decides entry.name entry.name).1 refl) ∙ ap (λ (n : ℕ). Some n) (omega arith) in
      let stood = stands (over (front ++ vacant ∷ back)) new entry.name (hardware_of state) (length front) vacant found
      (there_behind front vacant back) refl refl response (rw before at step) in
      let after : front ++ full ∷ back ≡ partly (take (i + 1) entries) (drop (i + 1) entries) =
      rw (served_more, one, append_assoc) in
      stood ∙ ap over (set-append_seam front vacant back full ∙ after)
