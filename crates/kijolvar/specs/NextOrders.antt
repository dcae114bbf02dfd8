-- The next order that a till's host gets (abi/README.md, "Your own devices" and "Driven devices").
use Rattle.std.specs.Prelude.{List, Some, [], drop, false, length, true, ℕ, ◌++◌, ◌<◌, ◌≡◌, ◌≢◌, ◌≤◌, ◌⊎◌}
use Rattle.pos_service.specs.declared.order.Order.{Order}
use Rattle.pos_service.specs.declared.peripheral.Peripheral.{Ghosts}
use Rattle.pos_drive.specs.Courses.{handed_out_course}
use Rattle.pos_drive.specs.declared.courses.Progress.TheVariants as progress
use Rattle.pos_drive.specs.declared.courses.Course.{Course}
use Rattle.pos_counter.specs.Counters.{Stays}
use Rattle.pos_counter.specs.HostTallies.{gives}
use Rattle.pos_counter.specs.Hosts.{changed_pending, hosts_in, progress_in, waiting_in}
use Rattle.kijolvar.specs.declared.device.Device.{Device}
use Rattle.kijolvar.specs.declared.till_state.TillState.{TillState}
use Rattle.kijolvar.specs.declared.till_disk.Settlement.{Settlement}
use Rattle.kijolvar.specs.declared.till_disk.Settlement.TheVariants.{Failed, InMemory, Owed, Settled}
use Rattle.kijolvar.specs.Codes.{disk_failed, errands_left, no_memory, ok, order_told, short}
use Rattle.kijolvar.specs.Orders.{Refills, WritesOrder, order_lines, order_text}
use Rattle.kijolvar.specs.TillDisks.{IsInFile}
use Rattle.kijolvar.specs.Tills.{Undone, WritesNothing, disk_of, settlement_of}

-- The order of a driven device is given to the host, which counts: its line is written, and the host has it from then
-- on.
pub record GivesOrder (hosts : Device → Course) (peripherals : Ghosts Device) (old : TillState)
    (line before after : List ℕ)
    (needed code : ℕ) (new : TillState) : Type 0 where
  pub fits : length line ≤ length before
  pub written : after ≡ line ++ drop (length line) before
  pub code_told : code ≡ order_told
  pub length_told : needed ≡ length line
  pub counter : Stays peripherals old.counter new.counter
  pub tally : new.counter.tally ≡ gives (progress_in hosts old.counter) old.counter.tally
  pub course : hosts_in hosts new.counter ≡ changed_pending handed_out_course (hosts_in hosts old.counter)
  pub once : progress_in hosts new.counter ≡ progress.HandedOut
  pub stays : new ≡ record old { counter = new.counter; orders = new.orders }

-- There is less room than the line of an order has bytes. The order stays the next one.
pub record IsTooLong (old : TillState) (line before after : List ℕ) (needed code : ℕ) (new : TillState) : Type 0 where
  pub longer : length before < length line
  pub text_stays : after ≡ before
  pub code_told : code ≡ short
  pub length_told : needed ≡ length line
  pub stays : new ≡ record old { orders = new.orders }

-- no order waits that the host doesn't have
pub record HasNone (old : TillState) (before after : List ℕ) (needed code : ℕ) (new : TillState) : Type 0 where
  pub text_stays : after ≡ before
  pub code_told : code ≡ ok
  pub length_told : needed ≡ 0
  pub stays : new ≡ record old { orders = new.orders }

-- there was no memory for the line of an order, which stays the next one
pub record HasNoLine (old : TillState) (before after : List ℕ) (needed_before needed code : ℕ)
    (new : TillState) : Type 0 where
  pub tells : WritesNothing before after needed_before needed code no_memory
  pub stays : new ≡ record old { orders = new.orders }

-- The order that waits of a driven device is given to the host, once: the line has the device's name, the order's word
-- and its arguments.
pub record GivesDriven (hosts : Device → Course) (peripherals : Ghosts Device) (old : TillState) (before after : List ℕ)
    (needed_before needed code : ℕ) (new : TillState) : Type 0 where
  pub none : progress_in hosts old.counter ≢ progress.Waits → HasNone old before after needed code new
  pub given : (device : List ℕ) (asked : Order) → progress_in hosts old.counter ≡ progress.Waits →
      waiting_in hosts old.counter ≡ Some (device, asked) →
      GivesOrder hosts peripherals old (order_text device asked) before after needed code new
      ⊎ IsTooLong old (order_text device asked) before after needed code new
      ⊎ HasNoLine old before after needed_before needed code new

-- The first of the orders that wait is told, or of others where none waits, and nothing else changes. Which others
-- those are, and in which order, isn't said: devices have kept them in a cell. Where there is none, the order that
-- waits of a driven device is given to the host.
pub record HandsOut (hosts : Device → Course) (peripherals : Ghosts Device) (old : TillState) (before after : List ℕ)
    (needed_before needed code : ℕ) (new : TillState) : Type 0 where
  pub waiting : List (List ℕ)
  pub those : Refills (order_lines old.orders.items) waiting
  pub left : (waiting ≢ []) ⊎ (old.is_driven ≡ false) →
      WritesOrder waiting before after needed code (order_lines new.orders.items)
      × (new ≡ record old { orders = new.orders })
  pub driven : waiting ≡ [] → old.is_driven ≡ true →
      (new.orders.items ≡ []) × GivesDriven hosts peripherals old before after needed_before needed code new

-- what a host that asks for the next order is told, by how it stands to the disk: an order, and its file equals the
-- totals' disk; or nothing while errands are left or one failed
abbrev pub NextOrderBy : Settlement → (Device → Course) → Ghosts Device → (old : TillState) (before after : List ℕ)
    (needed_before needed code : ℕ) (new : TillState) → Type 0
NextOrderBy InMemory hosts peripherals old before after needed_before needed code new =
    HandsOut hosts peripherals old before after needed_before needed code new
NextOrderBy Settled hosts peripherals old before after needed_before needed code new =
    IsInFile (disk_of old) × HandsOut hosts peripherals old before after needed_before needed code new
NextOrderBy Owed hosts peripherals old before after needed_before needed code new =
    Undone old before after needed_before needed code errands_left new
NextOrderBy Failed hosts peripherals old before after needed_before needed code new =
    Undone old before after needed_before needed code disk_failed new

abbrev pub NextOrder : (Device → Course) → Ghosts Device → (old : TillState) (before after : List ℕ)
    (needed_before needed code : ℕ) (new : TillState) → Type 0
NextOrder hosts peripherals old = NextOrderBy (settlement_of old) hosts peripherals old
