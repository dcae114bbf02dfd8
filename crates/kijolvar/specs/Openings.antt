-- What the calls that open a till answer, and the till that they leave (abi/README.md).
use Rattle.std.specs.Prelude.{◌≡◌, ◌≤◌, ◌<◌, ◌⊎◌, ℕ, List, Some, Ok, Err, false, length, nat_lt, if◌then◌else◌}
use Rattle.pos_disk.specs.Memory.{fresh, state_of}
use Rattle.pos_disk.specs.State.{DiskState}
use Rattle.pos_image.specs.Layout.{disk_size}
use Rattle.pos_image.specs.NewDisk.{KeepsRest}
use Rattle.pos_image.specs.Standing.{HasNoFiles, is_marked}
use Rattle.pos_profile.specs.Entries.{Contents}
use Rattle.pos_service.specs.declared.peripheral.Peripheral.{Ghosts}
use Rattle.pos_store.specs.Migrations.{KeepsFirstLayout}
use Rattle.pos_store.specs.MovedDisks.{MovesAny}
use Rattle.pos_store.specs.declared.fault.StoreFault.{StoreFault}
use Rattle.pos_store.specs.declared.fault.StoreFault.TheVariants as fault
use Rattle.kijolvar.specs.Codes.{damaged, formatted, moved, no_memory, ok, too_small, unformatted}
use Rattle.kijolvar.specs.Errands.{no_work}
use Rattle.kijolvar.specs.Profiles.{GivesProfile, IsRefused, RefusesProfile}
use Rattle.kijolvar.specs.Tills.{Begins}
use Rattle.kijolvar.specs.declared.device.Device.{Device}
use Rattle.kijolvar.specs.declared.till_state.TillState.{TillState}
use Rattle.kijolvar.specs.declared.till_disk.Settlement.TheVariants.{Owed}
use Rattle.kijolvar.specs.TillDisks.{FileFollows, HostedDisk, IsInStep, fixed_of, hosted, hosted_state, settlement_with}

-- the code for the bytes of a file: whether they are enough for a disk
abbrev pub open_code : List ℕ → ℕ
open_code bytes = if nat_lt (length bytes) disk_size then too_small else ok

-- the code for the bytes of a file that is to be formatted: whether they are enough, and hold no totals yet
abbrev pub format_code : List ℕ → ℕ
format_code bytes =
    if nat_lt (length bytes) disk_size then too_small else if is_marked bytes then formatted else ok

-- the disk of a file of these bytes, before anything is done to it
abbrev pub disk_in_file : List ℕ → HostedDisk
disk_in_file bytes = hosted (fresh bytes) (Some (no_work bytes))

-- The disk that formatting makes of a file of these bytes: it has no files, and no byte changed but gates and the first
-- fields. The file is as it was; once the errands that its host has are done, it equals the disk.
pub record IsFormattedOf (bytes : List ℕ) (disk : HostedDisk) : Type 0 where
  pub files : HasNoFiles (state_of disk.memory)
  pub rest : KeepsRest bytes disk.memory.present.reading
  pub file : fixed_of disk ≡ fixed_of (disk_in_file bytes)
  pub in_step : IsInStep disk
  pub owed : settlement_with disk.work false ≡ Owed

-- the disk of a file of these bytes in the terms of every disk, before anything is done to it
abbrev pub file_state : List ℕ → DiskState
file_state bytes = hosted_state (disk_in_file bytes)

-- The disk that a move to layout 2 makes of a file of these bytes: it has the files that it had by layout 1, and none
-- of the slots of layout 1 was written. The file is as it was; once the errands that its host has are done, it equals
-- the disk, and until then a crash leaves of it only what one of the disk may have left.
pub record IsMovedOf (bytes : List ℕ) (disk : HostedDisk) : Type 0 where
  pub moves : MovesAny (file_state bytes) (hosted_state disk) (Ok tt)
  pub rest : KeepsFirstLayout bytes disk.memory.present.reading
  pub file : fixed_of disk ≡ fixed_of (disk_in_file bytes)
  pub in_step : IsInStep disk
  pub follows : FileFollows (disk_in_file bytes) disk
  pub owed : settlement_with disk.work false ≡ Owed

-- the code for why totals aren't moved; an errand is lost for want of memory alone
abbrev pub move_code : StoreFault → ℕ
move_code fault.Unformatted = unformatted
move_code fault.Damaged = damaged
move_code fault.AlreadyLayout2 = moved
move_code other = no_memory

-- why the totals in these bytes aren't moved, by the code: what the bytes hold
abbrev pub RefusesTotals : List ℕ → (code : ℕ) → Type 0
RefusesTotals bytes code = (why : StoreFault) × (disk : HostedDisk)
    × MovesAny (file_state bytes) (hosted_state disk) (Err why) × (code ≡ move_code why)

-- why a file of these bytes isn't moved, by the code: there was no memory, it is too short, or it is long enough for a
-- disk and its totals aren't moved
abbrev pub RefusesMove : List ℕ → (code : ℕ) → Type 0
RefusesMove bytes code = (code ≡ no_memory)
    ⊎ ((code ≡ too_small) × (length bytes < disk_size))
    ⊎ ((disk_size ≤ length bytes) × RefusesTotals bytes code)

-- what a call answers that moves the totals of a file and opens a till over it
abbrev pub AnswersMove : (profile bytes : List ℕ) (code : ℕ) → Type 0
AnswersMove profile bytes code = RefusesProfile profile code
    ⊎ (((code ≡ ok) ⊎ RefusesMove bytes code) × ¬ (IsRefused profile))

-- What a call answers that opens a till: there was no memory; or the profile is refused; or the code for the file, and
-- the profile isn't refused.
abbrev pub AnswersOpening : (profile : List ℕ) (of_file : ℕ) (code : ℕ) → Type 0
AnswersOpening profile of_file code = RefusesProfile profile code ⊎ ((code ≡ of_file) × ¬ (IsRefused profile))

-- A new till of the profile of these bytes, over such a disk.
pub record Opens (peripherals : Ghosts Device) (profile : List ℕ) (IsOver : HostedDisk → Type 0) (till : TillState)
    : Type 0 where
  pub contents : Contents
  pub gives : GivesProfile profile contents
  pub disk : HostedDisk
  pub over : IsOver disk
  pub begins : Begins peripherals contents disk till
