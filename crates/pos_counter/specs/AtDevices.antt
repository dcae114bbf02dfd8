-- What is done at one device of a counter.
use Rattle.std.specs.Prelude.{◌≡◌, ℕ, true, List, Option, Some, Result, IfSome, MatchOption, slice_get, slice_set}
use Rattle.std.specs.Prelude.{IsSome}
use Rattle.pos_service.specs.declared.answer.Answer.{Answer}
use Rattle.pos_service.specs.declared.call.Call.{Call}
use Rattle.pos_service.specs.declared.faults.NoMemory.{NoMemory}
use Rattle.pos_service.specs.declared.kind.Kind.{Kind}
use Rattle.pos_service.specs.Categories.{serves}
use Rattle.pos_service.specs.Controls.{Control}
use Rattle.pos_service.specs.declared.input.Input.{Input}
use Rattle.pos_service.specs.Hardware.{Effect, Hardware}
use Rattle.pos_common.specs.KeptControls.{KeptControl, controls_of}
use Rattle.pos_common.specs.OwnCalls.{OwnCall}
use Rattle.pos_counter.specs.Machine.{Device, device_at, kind_in, hardware_in}
use Rattle.pos_counter.specs.Steps.{FindsFit, IsPlaceOn, device_action, device_rows}

-- the device at a place has a peripheral
abbrev pub IsAttachedAt : List Device → ℕ → Type 0
IsAttachedAt devices place = IsSome (hardware_in (device_at devices (Some place)))

-- An input fits the peripheral of the device at a place.
abbrev pub FitsAt : List Device → ℕ → Input → Type 0
FitsAt devices place given = FindsFit (hardware_in (device_at devices (Some place))) given true

-- A control may call the peripheral of its device, which is of this kind. Its category serves the kind, and its cursor
-- is at one of its places.
pub record MayCall (kind : Kind) (control : Control) : Type 0 where
  pub served : serves control.category kind ≡ true
  pub cursor : IsPlaceOn (Some kind) control.cursor.place

-- The control with a number may call the peripheral of the device at a place.
pub record MayBeCalled (devices : List Device) (place : ℕ) (controls : List Control) (number : ℕ) : Type 0 where
  pub attached : IsAttachedAt devices place
  pub may : MatchOption (slice_get controls number) ⊥ (λ control.
      IfSome (kind_in (device_at devices (Some place))) (λ kind. MayCall kind control))

-- Something is done with the peripheral of the device at a place, and with the controls, and nothing else changes.
pub record IsDoneAt (devices : List Device) (place : ℕ) (Does : Effect) (helds new_helds : List KeptControl)
    (new_devices : List Device) : Type 0 where
  pub device : Device
  pub before : Hardware
  pub after : Hardware
  pub is_device : slice_get devices place ≡ Some device
  pub is_attached : device.hardware ≡ Some before
  pub kind : device.kind ≡ before.kind
  pub does : Does (controls_of helds) before (controls_of new_helds) after
  pub changed : new_devices ≡ slice_set devices place (record device { hardware = Some after })

-- a call of a category's own of the control with a number on its device, by the claims of all devices
abbrev pub CallsAt : ℕ → List (Option ℕ) → Call → Result Answer NoMemory → Effect
CallsAt number claims asked outcome old before new after = MatchOption (slice_get old number) ⊥ (λ control.
    let at = Some before.kind in
    OwnCall control.category (device_rows control.category at control asked)
    (device_action control.category at control asked) number claims asked outcome control old before new after)
