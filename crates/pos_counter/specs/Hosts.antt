-- How the devices of a counter stand to their host, and what the host does with them.
use Rattle.std.specs.Prelude.{◌≡◌, ◌<◌, ℕ, zero, suc, Bool, true, false, List, [], ◌∷◌, Option, Some, None, bytes_eq}
use Rattle.std.specs.Prelude.{map, if◌then◌else◌}
use Rattle.std.specs.Option.{option_map}
use Rattle.pos_drive.specs.Courses.{driven_course, handed_out_course, order_in, progress_of, reported_course}
use Rattle.pos_drive.specs.declared.courses.Course.{Course}
use Rattle.pos_drive.specs.declared.courses.Course.TheVariants as course
use Rattle.pos_drive.specs.declared.courses.Progress.{Progress}
use Rattle.pos_drive.specs.declared.courses.Progress.TheVariants as progress
use Rattle.pos_profile.specs.declared.slot.Slot.{Slot}
use Rattle.pos_service.specs.declared.order.Order.{Order}
use Rattle.pos_counter.specs.KeptDevices.{slots_in}
use Rattle.pos_counter.specs.declared.counter.Counter.{Counter}
use Rattle.pos_counter.specs.declared.hosts.HostAct.{HostAct}
use Rattle.pos_counter.specs.declared.hosts.HostAct.TheVariants.{Drive, HandOut, Report}

-- a device to its host: its name, and how its peripheral stands to the host; none if it is vacant
abbrev pub Host : Type 0
Host = List ℕ × Option Course

-- the device of a slot, by how peripherals stand to their host
abbrev pub host_of : {P : Type 0} → (P → Course) → Slot P → Host
host_of course_of slot = (slot.name, option_map course_of slot.peripheral)

-- the devices of slots, in order
abbrev pub hosts_of : {P : Type 0} → (P → Course) → List (Slot P) → List Host
hosts_of course_of slots = map (λ slot. host_of course_of slot) slots

-- the devices of a counter, in order
abbrev pub hosts_in : {D P : Type 0} → (P → Course) → Counter D P → List Host
hosts_in course_of counter = hosts_of course_of (slots_in counter.devices)

-- an order waits, the host has it, or the host has reported what became of it
abbrev pub is_pending : Course → Bool
is_pending course.Free = false
is_pending course.Ready = false
is_pending (course.Waits asked) = true
is_pending (course.HandedOut asked) = true
is_pending (course.Reported asked is_done) = true

-- an order of the device is pending
abbrev pub has_pending : Host → Bool
has_pending (name, None) = false
has_pending (name, Some course) = is_pending course

-- the first device with a pending order: its name, and its peripheral
abbrev pub pending_peripheral : {P : Type 0} → (P → Course) → List (Slot P) → Option (List ℕ × P)
pending_peripheral course_of [] = None
pending_peripheral course_of (slot ∷ slots) =
    if has_pending (host_of course_of slot) then option_map (λ found. (slot.name, found)) slot.peripheral
    else pending_peripheral course_of slots

-- what serves the first device with a name; none if it is vacant or there is no such device
abbrev pub served_named : {P : Type 0} → List ℕ → List (Slot P) → Option P
served_named name [] = None
served_named name (slot ∷ slots) = if bytes_eq name slot.name then slot.peripheral else served_named name slots

-- an order of the device at a place is pending
abbrev pub pends_at : List Host → ℕ → Bool
pends_at [] place = false
pends_at (host ∷ hosts) zero = has_pending host
pends_at (host ∷ hosts) (suc place) = pends_at hosts place

-- the first device with a pending order: its name, and how it stands to the host
abbrev pub pending_of : List Host → Option (List ℕ × Course)
pending_of [] = None
pending_of ((name, None) ∷ hosts) = pending_of hosts
pending_of ((name, Some course) ∷ hosts) = if is_pending course then Some (name, course) else pending_of hosts

abbrev pub pending_in : {D P : Type 0} → (P → Course) → Counter D P → Option (List ℕ × Course)
pending_in course_of counter = pending_of (hosts_in course_of counter)

-- how far the host is with a pending order; ready for the next if there is none
abbrev pub progress_with : Option (List ℕ × Course) → Progress
progress_with None = progress.Ready
progress_with (Some (name, course)) = progress_of course

abbrev pub progress_in : {D P : Type 0} → (P → Course) → Counter D P → Progress
progress_in course_of counter = progress_with (pending_in course_of counter)

-- a pending order that waits or that the host has, with its device's name
abbrev pub waiting_with : Option (List ℕ × Course) → Option (List ℕ × Order)
waiting_with None = None
waiting_with (Some (name, course)) = option_map (λ asked. (name, asked)) (order_in course)

abbrev pub waiting_in : {D P : Type 0} → (P → Course) → Counter D P → Option (List ℕ × Order)
waiting_in course_of counter = waiting_with (pending_in course_of counter)

-- a device that stands to its host otherwise, if it isn't vacant
abbrev pub changed_host : (Course → Course) → Host → Host
changed_host change host = (host.0, option_map change host.1)

-- the device at a place stands to its host otherwise
abbrev pub changed_at : (Course → Course) → ℕ → List Host → List Host
changed_at change place [] = []
changed_at change zero (host ∷ hosts) = changed_host change host ∷ hosts
changed_at change (suc place) (host ∷ hosts) = host ∷ changed_at change place hosts

-- the first device with a pending order stands to its host otherwise
abbrev pub changed_pending : (Course → Course) → List Host → List Host
changed_pending change [] = []
changed_pending change (host ∷ hosts) =
    if has_pending host then changed_host change host ∷ hosts else host ∷ changed_pending change hosts

-- the first device with a name stands to its host otherwise
abbrev pub changed_named : (Course → Course) → List ℕ → List Host → List Host
changed_named change name [] = []
changed_named change name (host ∷ hosts) =
    if bytes_eq name host.0 then changed_host change host ∷ hosts else host ∷ changed_named change name hosts

-- each device stands to its host otherwise
abbrev pub changed_all : (Course → Course) → List Host → List Host
changed_all change hosts = map (λ host. changed_host change host) hosts

-- how the first device with a name stands to its host; none if it is vacant or there is no such device
abbrev pub course_named : List ℕ → List Host → Option Course
course_named name [] = None
course_named name (host ∷ hosts) = if bytes_eq name host.0 then host.1 else course_named name hosts

-- how a device stands to its host after the host did this
abbrev pub course_after : HostAct → Course → Course
course_after Drive course = driven_course course
course_after HandOut course = handed_out_course course
course_after (Report is_done) course = reported_course is_done course

-- An order of the device at a place is pending, and none of a device before it is.
pub record IsFirstPending (hosts : List Host) (place : ℕ) : Type 0 where
  pub pends : pends_at hosts place ≡ true
  pub none_before : (lower : ℕ) → lower < place → pends_at hosts lower ≡ false

-- no order is pending
abbrev pub NonePending : List Host → Type 0
NonePending hosts = (place : ℕ) → pends_at hosts place ≡ false

-- The device at a place has a name, and none before it has.
abbrev pub IsNamedAt : List ℕ → List Host → ℕ → Type 0
IsNamedAt name hosts place =
    (change : Course → Course) → changed_named change name hosts ≡ changed_at change place hosts

-- an order that waits for the host is given to it
abbrev pub progress_handed_out : Progress → Progress
progress_handed_out progress.Waits = progress.HandedOut
progress_handed_out other = other

-- what became of the order that the host has is reported
abbrev pub progress_reported : Progress → Progress
progress_reported progress.HandedOut = progress.Reported
progress_reported other = other
