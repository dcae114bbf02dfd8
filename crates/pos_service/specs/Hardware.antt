-- What stands at a device, and what a category's calls and inputs do there to the list of all controls.
use Rattle.std.specs.Prelude.{List, MatchResult, None, Option, Result, Some, false, true, ℕ, ◌≡◌}
use Rattle.pos_service.specs.declared.input.Input.{Input}
use Rattle.pos_service.specs.declared.input.Input.TheVariants as input
use Rattle.pos_service.specs.declared.input.Taken.{Taken}
use Rattle.pos_service.specs.declared.input.Taken.TheVariants as taken
use Rattle.pos_service.specs.declared.kind.Kind.{Kind}
use Rattle.pos_service.specs.declared.faults.NoMemory.{NoMemory}
use Rattle.pos_service.specs.declared.plant.Plant.{Plant}
use Rattle.pos_service.specs.declared.signs.PaperLevel.TheVariants as paper
use Rattle.pos_service.specs.declared.signs.Signs.{Signs}
use Rattle.pos_service.specs.Controls.{Control, all_listening, failed, read}
use Rattle.pos_service.specs.Peripherals.{PeripheralState, Takes, input_fits, signs_of}
use Rattle.pos_service.specs.Statuses.{heard_signs}

-- what stands at a device: what it is, what it is physically, and how often its line has failed
pub record Hardware : Type 0 where
  pub kind : Kind
  pub plant : Plant
  pub failures : ℕ

-- what a peripheral is to the machine
abbrev pub hardware_of : PeripheralState → Hardware
hardware_of state = record { kind = state.kind; plant = state.plant; failures = state.failures }

-- the signs at a device: where it has no peripheral, that it is on, and else each false or good
abbrev pub signs_in : Option Hardware → Signs
signs_in None = record { powered = true; drawer_open = false; cover_open = false; paper = paper.Good }
signs_in (Some hardware) = signs_of hardware.kind hardware.plant

-- Controls and hardware are as they were.
pub record NothingChanges (old : List Control) (before : Hardware) (new : List Control)
    (after : Hardware) : Type 0 where
  pub controls : new ≡ old
  pub hardware : after ≡ before

-- what something does to all controls and hardware
abbrev pub Effect : Type 1
Effect = List Control → Hardware → List Control → Hardware → Type 0

-- A peripheral is in service, and of the kind that it was.
pub record StaysInService (old new : PeripheralState) : Type 0 where
  pub unparked : new.is_parked ≡ false
  pub kind : new.kind ≡ old.kind

-- What each control that listens does, by how an input was taken: it hears the signs that have changed, reads the scan,
-- or its input has failed.
abbrev pub reaction : Input → Taken → Signs → Signs → Control → Control
reaction i taken.Quiet was is control = heard_signs was is control
reaction (input.Scan number bytes label) taken.Scan was is control =
    read (record { kind = number; bytes = bytes; label = label }) control
reaction i taken.Scan was is control = control
reaction i taken.Fault was is control = failed control

-- An input is taken in some way, which may change the plant, and each control that listens does what it does then.
pub record TakesIn (input : Input) (place : ℕ)
    (old : List Control) (before : Hardware) (new : List Control) (after : Hardware) : Type 0 where
  pub taken : Taken
  pub fits : input_fits before.kind input ≡ true
  pub plant : Takes input before.plant taken after.plant
  pub hardware : after ≡ record before { plant = after.plant }
  pub controls : new ≡ all_listening place
      (reaction input taken (signs_of before.kind before.plant) (signs_of after.kind after.plant)) old

-- An input is taken in, or finds no memory and changes nothing.
abbrev pub TakenAt : Input → ℕ → Result (Unit {0}) NoMemory → Effect
TakenAt input place outcome old before new after = MatchResult outcome
    (λ done. TakesIn input place old before new after)
    (λ want. NothingChanges old before new after)
