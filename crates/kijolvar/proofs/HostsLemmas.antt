-- Which devices a till's host may drive.
use Rattle.kijolvar.proofs.Common.{List, ℕ, ◌∷◌, ◌≡◌, refl, []}
use Rattle.std.proofs.Common.{Bool, false, option_map, true}
use Rattle.std.specs.Prelude.{None, Option, Some, bytes_eq, if◌then◌else◌, is_some}
use Rattle.pos_counter.specs.Hosts.{course_named, hosts_of, served_named}
use Rattle.pos_drive.specs.declared.courses.Course.{Course}
use Rattle.pos_profile.specs.declared.slot.Slot.{Slot}
use Rattle.pos_run.proofs.Common.{false≢true}
use Rattle.kijolvar.specs.Hosts.{is_drivable}
use Rattle.kijolvar.specs.declared.device.Device.{Device}

module _ (hosts : Device → Course) where
  -- what may be driven stands to its host in some way
  has_course : (served : Option Device) → is_drivable served ≡ true → is_some (option_map hosts served) ≡ true
  has_course None is = absurd (false≢true is)
  has_course (Some device) is = refl

  -- so a host may have the device of its name
  pub drivable_is_served : (name : List ℕ) (slots : List (Slot Device)) → is_drivable (served_named name slots) ≡ true
      → is_some (course_named name (hosts_of hosts slots)) ≡ true
  drivable_is_served name [] is = absurd (false≢true is)
  drivable_is_served name (slot ∷ slots) is = by (bytes_eq name slot.name) (drivable_is_served name slots) is
    where
      by : (same : Bool)
          → (is_drivable (served_named name slots) ≡ true → is_some (course_named name (hosts_of hosts slots)) ≡ true)
          → is_drivable (if same then slot.peripheral else served_named name slots) ≡ true
          → is_some (if same then option_map hosts slot.peripheral else course_named name (hosts_of hosts slots)) ≡ true
      by true later is = has_course slot.peripheral is
      by false later is = later is
