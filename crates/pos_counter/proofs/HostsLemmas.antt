-- What becomes of devices that a host drives.
use Rattle.pos_counter.proofs.Common.{Bool, List, None, Option, PeripheralState, Registered, Some, [], ap, arith}
use Rattle.pos_counter.proofs.Common.{bytes_eq, false, false≢true, is_some, length, length-map, names_of, option_map}
use Rattle.pos_counter.proofs.Common.{refl, registered_from, same_Some, slice_get, slice_set, standing_at, subst, suc}
use Rattle.pos_counter.proofs.Common.{sym, true, with_peripheral, zero, ℕ, ◌+◌, ◌<◌, ◌∙◌, ◌∷◌, ◌≡◌, ◌≤◌, ⊎_elim}
use Rattle.std.proofs.lemmas.Bool.{cases_lt}
use Rattle.std.proofs.Common.{Global, Vec, option_and_then}
use Rattle.pos_drive.specs.Courses.{handed_out_course, reported_course, settled_course}
use Rattle.pos_drive.specs.declared.courses.Course.{Course}
use Rattle.pos_drive.specs.declared.courses.Course.TheVariants as course
use Rattle.pos_profile.specs.Lending.{slot_with, slots_with}
use Rattle.pos_profile.specs.Registries.{devices_of as registered_of, peripheral_at}
use Rattle.pos_profile.specs.declared.slot.Slot.{Slot}
use Rattle.pos_service.specs.declared.peripheral.Peripheral.{Ghosts}
use Rattle.pos_counter.specs.Counters.{IsCounterSound}
use Rattle.pos_counter.specs.HostTallies.{LeavesHostAlone}
use Rattle.pos_counter.specs.declared.host_tally.HostTally.{HostTally}
use Rattle.pos_counter.specs.Hosts.{Host, IsFirstPending, IsNamedAt, NonePending, changed_all, changed_at, changed_host}
use Rattle.pos_counter.specs.Hosts.{changed_named, changed_pending, course_named, has_pending, host_of, hosts_of}
use Rattle.pos_counter.specs.Hosts.{is_pending, pending_of, pends_at, progress_handed_out, progress_reported}
use Rattle.pos_counter.specs.Hosts.{progress_with, waiting_with}
use Rattle.pos_counter.specs.KeptDevices.{AreDevicesSound, devices_in}
use Rattle.pos_counter.specs.Machine.{machine_with}
use Rattle.pos_counter.specs.Steps.{IsSound}
use Rattle.pos_counter.specs.declared.counter.Counter.{Counter}
use Rattle.pos_counter.specs.declared.devices.Devices.{Devices}

-- a device whose peripheral is to the counter as it was
pub same_peripheral : (devices : List Registered) (place : ℕ) {state : PeripheralState}
    → standing_at devices place ≡ Some state → with_peripheral devices place (Some state) ≡ devices
same_peripheral [] place is = refl
same_peripheral (device ∷ devices) zero is = ap (λ p. record device { peripheral = p } ∷ devices) (sym is)
same_peripheral (device ∷ devices) (suc place) is = ap (λ ds. device ∷ ds) (same_peripheral devices place is)

-- a counter whose devices are to it as they were is sound
pub same_sound : {D P : Type 0} {peripherals : Ghosts P} {old : Counter D P} {devices : Devices P}
    → devices_in peripherals devices ≡ devices_in peripherals old.devices → IsCounterSound peripherals old
    → AreDevicesSound peripherals devices → IsCounterSound peripherals (record old { devices = devices })
same_sound {old} {devices} same sound are = record {
  machine = λ part. subst (λ ds. IsSound (machine_with old.controls.items old.claims ds old.totals_name part))
      (sym same) (sound.machine part);
  devices = are;
}

-- what serves a device is the peripheral in its slot
pub standing_there : {P : Type 0} (peripherals : Ghosts P) (slots : List (Slot P)) (place : ℕ)
    → standing_at (registered_of peripherals slots) place ≡ option_map peripherals.state (peripheral_at slots place)
standing_there peripherals [] place = refl
standing_there peripherals (slot ∷ slots) zero = refl
standing_there peripherals (slot ∷ slots) (suc place) = standing_there peripherals slots place

pub served_there : {P : Type 0} (peripherals : Ghosts P) (slots : List (Slot P)) (place : ℕ)
    → is_some (peripheral_at slots place) ≡ true → is_some (standing_at (registered_of peripherals slots) place) ≡ true
served_there peripherals slots place is = grind (arith, standing_there peripherals slots place)

module _ {P : Type 0} (course_of : P → Course) where
  set_there : (slots : List (Slot P)) (place : ℕ) {slot : Slot P} {before after : P} (change : Course → Course)
      → slice_get slots place ≡ Some slot → slot.peripheral ≡ Some before → course_of after ≡ change (course_of before)
      → hosts_of course_of (slice_set slots place (slot_with slot after)) ≡ changed_at change place
      (hosts_of course_of slots)
  set_there [] place change at is same = refl
  set_there (first ∷ slots) zero {slot} change at is same = rw (same_Some first slot at, is, same) refl
  set_there (first ∷ slots) (suc place) change at is same =
      ap (λ hs. host_of course_of first ∷ hs) (set_there slots place change at is same)

  with_there : (slots : Vec (Slot P) Global) (place : ℕ) (o : Option (Slot P)) {before after : P}
      (change : Course → Course) → slice_get slots.items place ≡ o
      → option_and_then (λ slot. slot.peripheral) o ≡ Some before → course_of after ≡ change (course_of before)
      → hosts_of course_of (slots_with slots place o after).items ≡ changed_at change place
      (hosts_of course_of slots.items)
  with_there slots place None change at is same = grind (arith, is)
  with_there slots place (Some slot) change at is same = set_there slots.items place change at is same

  -- another peripheral serves the device at a place
  pub hosts_with : (slots : Vec (Slot P) Global) (place : ℕ) {before after : P} (change : Course → Course)
      → peripheral_at slots.items place ≡ Some before → course_of after ≡ change (course_of before)
      → hosts_of course_of (slots_with slots place (slice_get slots.items place) after).items ≡ changed_at change place
      (hosts_of course_of slots.items)
  hosts_with slots place change is same = with_there slots place (slice_get slots.items place) change refl is same

  vacant_here : (change : Course → Course) (name : List ℕ) (o : Option P) → is_some o ≡ false
      → changed_host change (name, option_map course_of o) ≡ (name, option_map course_of o)
  vacant_here change name None is = refl
  vacant_here change name (Some p) is = grind (arith, is)

  -- a vacant device has nothing to change
  pub vacant_same : (change : Course → Course) (slots : List (Slot P)) (place : ℕ)
      → is_some (peripheral_at slots place) ≡ false
      → changed_at change place (hosts_of course_of slots) ≡ hosts_of course_of slots
  vacant_same change [] place none = refl
  vacant_same change (slot ∷ slots) zero none =
      ap (λ h. h ∷ hosts_of course_of slots) (vacant_here change slot.name slot.peripheral none)
  vacant_same change (slot ∷ slots) (suc place) none =
      ap (λ hs. host_of course_of slot ∷ hs) (vacant_same change slots place none)

  -- the slot at a place is that device
  pub slot_pends : (slots : List (Slot P)) (place : ℕ) {slot : Slot P} → slice_get slots place ≡ Some slot
      → pends_at (hosts_of course_of slots) place ≡ has_pending (host_of course_of slot)
  slot_pends [] place at = grind (arith, at)
  slot_pends (first ∷ slots) zero {slot} at = ap (λ s. has_pending (host_of course_of s)) (same_Some first slot at)
  slot_pends (first ∷ slots) (suc place) at = slot_pends slots place at

  -- a place without a slot has no order
  pub none_pends : (slots : List (Slot P)) (place : ℕ) → slice_get slots place ≡ None
      → pends_at (hosts_of course_of slots) place ≡ false
  none_pends [] place at = refl
  none_pends (first ∷ slots) zero at = grind (arith, at)
  none_pends (first ∷ slots) (suc place) at = none_pends slots place at

  -- a vacant device has no order
  pub vacant_pends : (slot : Slot P) → slot.peripheral ≡ None → has_pending (host_of course_of slot) ≡ false
  vacant_pends slot is = rw is refl

  served_by : (name : List ℕ) (o : Option P) → has_pending (name, option_map course_of o) ≡ true → is_some o ≡ true
  served_by name None pends = grind (arith, pends)
  served_by name (Some p) pends = refl

  -- a device with an order has a peripheral
  pub pending_served : (slots : List (Slot P)) (place : ℕ) → pends_at (hosts_of course_of slots) place ≡ true
      → is_some (peripheral_at slots place) ≡ true
  pending_served [] place pends = grind (arith, pends)
  pending_served (slot ∷ slots) zero pends = served_by slot.name slot.peripheral pends
  pending_served (slot ∷ slots) (suc place) pends = pending_served slots place pends

-- the places behind the first
pub tail_first : {host : Host} {hosts : List Host} {place : ℕ} → IsFirstPending (host ∷ hosts) (suc place)
    → IsFirstPending hosts place
tail_first first = record {
  pends = first.pends;
  none_before = λ lower less. first.none_before (suc lower) (omega (arith, less));
}

-- what becomes of the first device with an order becomes of the one at its place
pub first_changed : (change : Course → Course) (hosts : List Host) (place : ℕ) → IsFirstPending hosts place
    → changed_pending change hosts ≡ changed_at change place hosts
first_changed change [] place first = refl
first_changed change (host ∷ hosts) zero first = rw first.pends refl
first_changed change (host ∷ hosts) (suc place) first = rw (first.none_before zero (omega arith))
    (ap (λ hs. host ∷ hs) (first_changed change hosts place (tail_first first)))

-- no device has an order
pub tail_none : (host : Host) (hosts : List Host) → NonePending (host ∷ hosts) → NonePending hosts
tail_none host hosts none = λ place. none (suc place)

pub none_changed : (change : Course → Course) (hosts : List Host) → NonePending hosts
    → changed_pending change hosts ≡ hosts
none_changed change [] none = refl
none_changed change (host ∷ hosts) none =
    rw (none zero) (ap (λ hs. host ∷ hs) (none_changed change hosts (tail_none host hosts none)))

passed_over : (host : Host) (hosts : List Host) → has_pending host ≡ false
    → pending_of (host ∷ hosts) ≡ pending_of hosts
passed_over (name, None) hosts none = refl
passed_over (name, Some c) hosts none = rw none refl

pub none_found : (hosts : List Host) → NonePending hosts → pending_of hosts ≡ None
none_found [] none = refl
none_found (host ∷ hosts) none = passed_over host hosts (none zero) ∙ none_found hosts (tail_none host hosts none)

-- the first device with an order is found
pub first_found : {P : Type 0} (course_of : P → Course) (slots : List (Slot P)) (place : ℕ) {slot : Slot P}
    {peripheral : P} → IsFirstPending (hosts_of course_of slots) place → slice_get slots place ≡ Some slot
    → slot.peripheral ≡ Some peripheral → pending_of (hosts_of course_of slots) ≡ Some (slot.name, course_of peripheral)
first_found course_of [] place first at is = grind (arith, at)
first_found course_of (s ∷ slots) zero {slot} {peripheral} first at is =
    let same = same_Some s slot at in
    let pends : is_pending (course_of peripheral) ≡ true = subst (λ o. has_pending (slot.name, option_map course_of o)
    ≡ true) is (subst (λ x. has_pending (host_of course_of x) ≡ true) same first.pends) in
    subst (λ x. pending_of (host_of course_of x ∷ hosts_of course_of slots) ≡ Some (slot.name, course_of peripheral))
    (sym same) (subst (λ o. pending_of ((slot.name, option_map course_of o) ∷ hosts_of course_of slots) ≡ Some
    (slot.name, course_of peripheral)) (sym is) (rw pends refl))
first_found course_of (s ∷ slots) (suc place) first at is =
    passed_over (host_of course_of s) (hosts_of course_of slots) (first.none_before zero (omega arith))
    ∙ first_found course_of slots place (tail_first first) at is

module _ {P : Type 0} (course_of : P → Course) (slots : List (Slot P)) (place : ℕ)
    (first : IsFirstPending (hosts_of course_of slots) place) where
  -- the first device with an order is there, and has a peripheral
  pub is_there : slice_get slots place ≡ None → ⊥
  is_there none = false≢true (sym (none_pends course_of slots place none) ∙ first.pends)

  pub has_peripheral : (slot : Slot P) → slice_get slots place ≡ Some slot → slot.peripheral ≡ None → ⊥
  has_peripheral slot at none =
      false≢true (sym (slot_pends course_of slots place at ∙ vacant_pends course_of slot none) ∙ first.pends)

-- no device from a place on has an order
pub pends_past : (hosts : List Host) (place : ℕ) → length hosts ≤ place → pends_at hosts place ≡ false
pends_past [] place past = refl
pends_past (host ∷ hosts) zero past = absurd (omega (arith, past))
pends_past (host ∷ hosts) (suc place) past = pends_past hosts place (omega (arith, past))

-- no device before a place has an order, nor has the one there
pub none_more : (hosts : List Host) (place : ℕ) → ((lower : ℕ) → lower < place → pends_at hosts lower ≡ false)
    → pends_at hosts place ≡ false → (lower : ℕ) → lower < place + 1 → pends_at hosts lower ≡ false
none_more hosts place before here lower below = ⊎_elim (λ less. before lower less)
    (λ reached. subst (λ k. pends_at hosts k ≡ false) (omega (arith, below, reached)) here) (cases_lt lower place)

-- no device before their end has an order
pub none_all : {P : Type 0} (course_of : P → Course) (slots : List (Slot P)) {place : ℕ}
    → ((lower : ℕ) → lower < place → pends_at (hosts_of course_of slots) lower ≡ false) → length slots ≤ place
    → NonePending (hosts_of course_of slots)
none_all course_of slots {place} before all any = ⊎_elim (λ less. before any less)
    (λ reached. pends_past (hosts_of course_of slots) any
    (omega (arith, all, reached, length-map slots (λ s. host_of course_of s)))) (cases_lt any place)

-- the first devices stand to their host otherwise
abbrev pub changed_front : (Course → Course) → ℕ → List Host → List Host
changed_front change zero hosts = hosts
changed_front change (suc n) [] = []
changed_front change (suc n) (host ∷ hosts) = changed_host change host ∷ changed_front change n hosts

-- and one more
pub front_more : (change : Course → Course) (n : ℕ) (hosts : List Host)
    → changed_at change n (changed_front change n hosts) ≡ changed_front change (suc n) hosts
front_more change zero [] = refl
front_more change zero (host ∷ hosts) = refl
front_more change (suc n) [] = refl
front_more change (suc n) (host ∷ hosts) = ap (λ hs. changed_host change host ∷ hs) (front_more change n hosts)

pub front_all : (change : Course → Course) (n : ℕ) (hosts : List Host) → length hosts ≤ n
    → changed_front change n hosts ≡ changed_all change hosts
front_all change zero [] all = refl
front_all change zero (host ∷ hosts) all = absurd (omega (arith, all))
front_all change (suc n) [] all = refl
front_all change (suc n) (host ∷ hosts) all =
    ap (λ hs. changed_host change host ∷ hs) (front_all change n hosts (omega (arith, all)))

-- a device that is settled has no order
pub settled_here : (c : Course) → is_pending (settled_course c) ≡ false
settled_here course.Free = refl
settled_here course.Ready = refl
settled_here (course.Waits asked) = refl
settled_here (course.HandedOut asked) = refl
settled_here (course.Reported asked is_done) = refl

pub settled_none : (hosts : List Host) → pending_of (changed_all settled_course hosts) ≡ None
settled_none [] = refl
settled_none ((name, None) ∷ hosts) = settled_none hosts
settled_none ((name, Some c) ∷ hosts) = rw (settled_here c) (settled_none hosts)

-- an order that is handed out or reported is still pending
pub handed_out_pends : (c : Course) → is_pending c ≡ true → is_pending (handed_out_course c) ≡ true
handed_out_pends course.Free is = is
handed_out_pends course.Ready is = is
handed_out_pends (course.Waits asked) is = is
handed_out_pends (course.HandedOut asked) is = is
handed_out_pends (course.Reported asked is_done) is = is

pub reported_pends : (done : Bool) (c : Course) → is_pending c ≡ true → is_pending (reported_course done c) ≡ true
reported_pends done course.Free is = is
reported_pends done course.Ready is = is
reported_pends done (course.Waits asked) is = is
reported_pends done (course.HandedOut asked) is = is
reported_pends done (course.Reported asked is_done) is = is

abbrev pub changed_found : (Course → Course) → Option (List ℕ × Course) → Option (List ℕ × Course)
changed_found change None = None
changed_found change (Some (name, c)) = Some (name, change c)

here_changed : (change : Course → Course) → ((c : Course) → is_pending c ≡ true → is_pending (change c) ≡ true)
    → (b : Bool) (name : List ℕ) (c : Course) (hosts : List Host) → is_pending c ≡ b
    → pending_of (changed_pending change hosts) ≡ changed_found change (pending_of hosts)
    → pending_of (changed_pending change ((name, Some c) ∷ hosts)) ≡ changed_found change
    (pending_of ((name, Some c) ∷ hosts))
here_changed change keeps true name c hosts is rest = rw (is, keeps c is) refl
here_changed change keeps false name c hosts is rest = rw (is, is) rest

-- the order that was pending is the one still
pub pending_changed : (change : Course → Course) → ((c : Course) → is_pending c ≡ true → is_pending (change c) ≡ true)
    → (hosts : List Host) → pending_of (changed_pending change hosts) ≡ changed_found change (pending_of hosts)
pending_changed change keeps [] = refl
pending_changed change keeps ((name, None) ∷ hosts) = pending_changed change keeps hosts
pending_changed change keeps ((name, Some c) ∷ hosts) =
    here_changed change keeps (is_pending c) name c hosts refl (pending_changed change keeps hosts)

pub still_waiting : (found : Option (List ℕ × Course))
    → waiting_with (changed_found handed_out_course found) ≡ waiting_with found
still_waiting None = refl
still_waiting (Some (name, course.Free)) = refl
still_waiting (Some (name, course.Ready)) = refl
still_waiting (Some (name, course.Waits asked)) = refl
still_waiting (Some (name, course.HandedOut asked)) = refl
still_waiting (Some (name, course.Reported asked is_done)) = refl

pub then_handed_out : (found : Option (List ℕ × Course))
    → progress_with (changed_found handed_out_course found) ≡ progress_handed_out (progress_with found)
then_handed_out None = refl
then_handed_out (Some (name, course.Free)) = refl
then_handed_out (Some (name, course.Ready)) = refl
then_handed_out (Some (name, course.Waits asked)) = refl
then_handed_out (Some (name, course.HandedOut asked)) = refl
then_handed_out (Some (name, course.Reported asked is_done)) = refl

pub then_reported : (done : Bool) (found : Option (List ℕ × Course))
    → progress_with (changed_found (reported_course done) found) ≡ progress_reported (progress_with found)
then_reported done None = refl
then_reported done (Some (name, course.Free)) = refl
then_reported done (Some (name, course.Ready)) = refl
then_reported done (Some (name, course.Waits asked)) = refl
then_reported done (Some (name, course.HandedOut asked)) = refl
then_reported done (Some (name, course.Reported asked is_done)) = refl

-- the place of a name, in a list that begins at a place
abbrev pub NamedFrom : {P : Type 0} → (P → Course) → List (Slot P) → ℕ → List ℕ → ℕ → Type 0
NamedFrom course_of slots at name place = (k : ℕ) × (place ≡ at + k) × ((change : Course → Course)
    → changed_named change name (hosts_of course_of slots) ≡ changed_at change k (hosts_of course_of slots))
    × (course_named name (hosts_of course_of slots) ≡ option_map course_of (peripheral_at slots k))

module _ {P : Type 0} (peripherals : Ghosts P) (course_of : P → Course) where
  named_or : (b : Bool) (slot : Slot P) (slots : List (Slot P)) (at place : ℕ) (name : List ℕ)
      → bytes_eq name slot.name ≡ b
      → (registered_from (at + 1) name (names_of (registered_of peripherals slots)) ≡ Some place
      → NamedFrom course_of slots (at + 1) name place)
      → registered_from at name (names_of (registered_of peripherals (slot ∷ slots))) ≡ Some place
      → NamedFrom course_of (slot ∷ slots) at name place
  named_or true slot slots at place name is rest found =
      let same = same_Some at place (rw is at found) in (0, omega (arith, same), λ change. rw is refl, rw is refl)
  named_or false slot slots at place name is rest found =
      let (k, same, changes, course) = rest (rw is at found) in (
        suc k,
        omega (arith, same),
        λ change. rw is (ap (λ hs. host_of course_of slot ∷ hs) (changes change)),
        rw is course,
      )

  named_from : (slots : List (Slot P)) (at : ℕ) {place : ℕ} (name : List ℕ)
      → registered_from at name (names_of (registered_of peripherals slots)) ≡ Some place
      → NamedFrom course_of slots at name place
  named_from [] at name found = grind (arith, found)
  named_from (slot ∷ slots) at {place} name found = named_or (bytes_eq name slot.name) slot slots at place name refl
      (λ later. named_from slots (at + 1) name later) found

  unnamed_or : (b : Bool) (slot : Slot P) (slots : List (Slot P)) (at : ℕ) (name : List ℕ) → bytes_eq name slot.name ≡ b
      → (registered_from (at + 1) name (names_of (registered_of peripherals slots)) ≡ None
      → course_named name (hosts_of course_of slots) ≡ None)
      → registered_from at name (names_of (registered_of peripherals (slot ∷ slots))) ≡ None
      → course_named name (hosts_of course_of (slot ∷ slots)) ≡ None
  unnamed_or true slot slots at name is rest found = let no : Some at ≡ None = rw is at found in grind (arith, no)
  unnamed_or false slot slots at name is rest found = rw is (rest (rw is at found))

  -- no device of the registry has the name
  pub unnamed_from : (slots : List (Slot P)) (at : ℕ) (name : List ℕ)
      → registered_from at name (names_of (registered_of peripherals slots)) ≡ None
      → course_named name (hosts_of course_of slots) ≡ None
  unnamed_from [] at name found = refl
  unnamed_from (slot ∷ slots) at name found = unnamed_or (bytes_eq name slot.name) slot slots at name refl
      (λ later. unnamed_from slots (at + 1) name later) found

  -- the device that the registry finds
  pub named_there : (slots : List (Slot P)) {place : ℕ} (name : List ℕ)
      → registered_from 0 name (names_of (registered_of peripherals slots)) ≡ Some place
      → IsNamedAt name (hosts_of course_of slots) place
      × (course_named name (hosts_of course_of slots) ≡ option_map course_of (peripheral_at slots place))
  named_there slots {place} name found =
      let (k, same, changes, course) = named_from slots 0 name found in
      let is : k ≡ place = omega (arith, same) in (
        λ change. subst (λ n. changed_named change name (hosts_of course_of slots)
            ≡ changed_at change n (hosts_of course_of slots)) is (changes change),
        subst (λ n. course_named name (hosts_of course_of slots) ≡ option_map course_of (peripheral_at slots n)) is
            course,
      )

-- how a peripheral stands to its host, where there is one
pub some_course : {P : Type 0} (course_of : P → Course) (o : Option P) → is_some (option_map course_of o) ≡ is_some o
some_course course_of None = refl
some_course course_of (Some p) = refl

pub no_course : {P : Type 0} (course_of : P → Course) (o : Option P) → is_some o ≡ false → option_map course_of o ≡ None
no_course course_of None is = refl
no_course course_of (Some p) is = grind (arith, is)

absent_here : (change : Course → Course) (host : Host) → host.1 ≡ None → changed_host change host ≡ host
absent_here change (name, None) is = refl
absent_here change (name, Some c) is = grind (arith, is)

absent_or : (b : Bool) (change : Course → Course) (name : List ℕ) (host : Host) (hosts : List Host)
    → bytes_eq name host.0 ≡ b → (course_named name hosts ≡ None → changed_named change name hosts ≡ hosts)
    → course_named name (host ∷ hosts) ≡ None → changed_named change name (host ∷ hosts) ≡ host ∷ hosts
absent_or true change name host hosts is rest none =
    rw is (ap (λ h. h ∷ hosts) (absent_here change host (rw is at none)))
absent_or false change name host hosts is rest none = rw is (ap (λ hs. host ∷ hs) (rest (rw is at none)))

-- a name without a peripheral has nothing to change
pub absent_same : (change : Course → Course) (name : List ℕ) (hosts : List Host) → course_named name hosts ≡ None
    → changed_named change name hosts ≡ hosts
absent_same change name [] none = refl
absent_same change name (host ∷ hosts) none =
    absent_or (bytes_eq name host.0) change name host hosts refl (absent_same change name hosts) none

-- ---- what passes between a counter and its host

-- nothing does where the tally is what it was
pub alone_same : {old new : HostTally} → new ≡ old → LeavesHostAlone old new
alone_same is = record {
  driven = ap (λ (t : HostTally). t.driven) is;
  given = ap (λ (t : HostTally). t.given) is;
  done = ap (λ (t : HostTally). t.done) is;
  not_done = ap (λ (t : HostTally). t.not_done) is;
}
