-- Which devices a till's host may have (abi/README.md, "Your own devices").
use Rattle.std.specs.Prelude.{◌≡◌, ◌⊎◌, ◌&&◌, ℕ, Bool, List, None, Option, Some, bytes_eq, false, is_some, true}
use Rattle.std.specs.List.{list_any}
use Rattle.std.specs.Bool.{MatchBool}
use Rattle.pos_profile.specs.declared.entry.Entry.{Entry}
use Rattle.pos_profile.specs.Kinds.{kind_of}
use Rattle.pos_drive.specs.Courses.{driven_course}
use Rattle.pos_drive.specs.declared.courses.Course.{Course}
use Rattle.pos_service.specs.declared.peripheral.Peripheral.{Ghosts}
use Rattle.pos_counter.specs.Counters.{Stays}
use Rattle.pos_counter.specs.HostTallies.{drives}
use Rattle.pos_counter.specs.Hosts.{changed_named, hosts_in, served_named}
use Rattle.pos_counter.specs.KeptDevices.{slots_in}
use Rattle.pos_run.specs.declared.wrapped.Wrapped.{Wrapped}
use Rattle.pos_run.specs.declared.wrapped.Wrapped.TheVariants as wrapped
use Rattle.kijolvar.specs.Codes.{no_device, no_memory, ok}
use Rattle.kijolvar.specs.declared.device.Device.{Device}
use Rattle.kijolvar.specs.declared.till_state.TillState.{TillState}

-- an entry has this name, and may have a peripheral, so it isn't one of Hard Totals
abbrev pub is_hostable : List ℕ → Entry → Bool
is_hostable name entry = bytes_eq entry.name name && is_some (kind_of entry)

-- a device of this name may have a peripheral
abbrev pub may_be_hosted : List Entry → List ℕ → Bool
may_be_hosted entries name = list_any (is_hostable name) entries

-- what a host is told that asks for a device, of these entries
abbrev pub IsHostCode : List Entry → List ℕ → (code : ℕ) → Type 0
IsHostCode entries name code =
    MatchBool (may_be_hosted entries name) ((code ≡ ok) ⊎ (code ≡ no_memory)) (code ≡ no_device)

-- the line of what is simulated doesn't fail
abbrev pub has_steady_line : Wrapped → Bool
has_steady_line (wrapped.Bare device) = true
has_steady_line (wrapped.Flaky flaky) = false
has_steady_line (wrapped.Recorded recorder) = true
has_steady_line (wrapped.Both recorder) = false

-- something serves a device, and its line doesn't fail
abbrev pub is_drivable : Option Device → Bool
is_drivable None = false
is_drivable (Some device) = has_steady_line device.driven.twin

-- the device of this name may be driven
abbrev pub is_drivable_now : TillState → List ℕ → Bool
is_drivable_now till name = is_drivable (served_named name (slots_in till.counter.devices))

-- Each order of the device of this name waits for the host from now on, and that is counted. Nothing else changes.
pub record IsDriven (hosts : Device → Course) (peripherals : Ghosts Device) (old : TillState) (name : List ℕ) (code : ℕ)
    (new : TillState) : Type 0 where
  pub code_told : code ≡ ok
  pub counter : Stays peripherals old.counter new.counter
  pub tally : new.counter.tally ≡ drives true old.counter.tally
  pub course : hosts_in hosts new.counter ≡ changed_named driven_course name (hosts_in hosts old.counter)
  pub stays : new ≡ record old { counter = new.counter; is_driven = true }

-- what a host is told that drives a device, and what that does
abbrev pub Drives : (Device → Course) → Ghosts Device → (old : TillState) (name : List ℕ) (code : ℕ) (new : TillState)
    → Type 0
Drives hosts peripherals old name code new = MatchBool (is_drivable_now old name)
    (IsDriven hosts peripherals old name code new) ((code ≡ no_device) × (new ≡ old))
