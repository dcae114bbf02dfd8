-- A control as the code holds it.
use Rattle.std.specs.Prelude.{◌≡◌, ℕ, ◌≤◌, ◌+◌, Bool, List, [], ◌∷◌, None, Result, MatchResult, IsTrue, ⊤}
use Rattle.std.specs.Prelude.{map, All, if◌then◌else◌}
use Rattle.pos_service.specs.declared.answer.Answer.{Answer}
use Rattle.pos_service.specs.declared.answer.Answer.TheVariants as answer
use Rattle.pos_service.specs.declared.answer.Value.{Value}
use Rattle.pos_service.specs.declared.answer.Value.TheVariants as value
use Rattle.pos_service.specs.declared.input.Input.{Input}
use Rattle.pos_service.specs.declared.input.Input.TheVariants as input
use Rattle.pos_service.specs.declared.faults.NoMemory.{NoMemory}
use Rattle.pos_service.specs.declared.property.Property.{Property}
use Rattle.pos_service.specs.declared.input.Scan.{Scan}
use Rattle.pos_service.specs.Properties.{is_of_bytes}
use Rattle.pos_service.specs.Controls.{Control, listens}
use Rattle.pos_service.specs.Refusals.{Row, Decided, first_refusal}
use Rattle.pos_common.specs.declared.controls.ScanCopy.{ScanCopy}

-- the machine's control, and how many events there is room for
pub record KeptControl : Type 0 where
  pub control : Control
  pub spare : ℕ

-- the machine's controls
abbrev pub controls_of : List KeptControl → List Control
controls_of helds = map (λ held. held.control) helds

-- a change of a device's signs has at most this many events: drawer, cover, paper, power
abbrev pub sign_events : ℕ
sign_events = 4

-- an input has at most this many events: those of a change of signs
abbrev pub input_events : ℕ
input_events = sign_events

-- a scan has at most this many events: a DataEvent
abbrev pub scan_events : ℕ
scan_events = 1

-- a failed scan has at most this many events: EL_INPUT_DATA and EL_INPUT
abbrev pub fault_events : ℕ
fault_events = 2

-- a request that is worked on has at most this many events: a change of signs, and OutputCompleteEvent or EL_OUTPUT
abbrev pub work_events : ℕ
work_events = 5

-- a control that has the device at a place open and enabled has room for this many events
abbrev pub HasRoom : ℕ → ℕ → KeptControl → Type 0
HasRoom place count held = IsTrue (listens place held.control) → count ≤ held.spare

-- the copies of a scan for controls, numbered from a number on: one for each that has the device at a place open and
-- enabled
abbrev pub copies_from : ℕ → Scan → ℕ → List Control → List ScanCopy
copies_from number scan place [] = []
copies_from number scan place (control ∷ controls) =
    let others = copies_from (number + 1) scan place controls in
    if listens place control then record { control = number; scan = scan } ∷ others else others

-- the copies of what is scanned for all controls; another input needs none
abbrev pub HasCopies : Input → ℕ → List Control → List ScanCopy → Type 0
HasCopies (input.Scan number bytes label) place controls copies =
    copies ≡ copies_from 0 (record { kind = number; bytes = bytes; label = label }) place controls
HasCopies other place controls copies = ⊤

-- These are the copies of a scan for the held controls, and each control that gets one has room for its event.
pub record AreCopies (scan : Scan) (place : ℕ) (helds : List KeptControl) (copies : List ScanCopy) : Type 0 where
  pub each : copies ≡ copies_from 0 scan place (controls_of helds)
  pub room : All (HasRoom place scan_events) helds

-- A call on a control is answered by its table, which changes nothing. If no row refuses it, it succeeds, and the
-- control is this one.
abbrev pub TurnsInto : List Row → Answer → KeptControl → KeptControl → Control → Type 0
TurnsInto rows result old new control =
    Decided rows result (new ≡ old) ((result ≡ answer.Done value.Empty) × (new.control ≡ control))

-- A property is set as its table says, and the control is this one then. Memory is wanted only for the event of the
-- device's power, if there is one, and only after the table. Then the control is as it was.
abbrev pub SetsTo : List Row → Bool → Result Answer NoMemory → KeptControl → KeptControl → Control → Type 0
SetsTo rows tells outcome old new control = MatchResult outcome
    (λ result. TurnsInto rows result old new control)
    (λ want. IsTrue tells × (first_refusal rows ≡ None) × (new.control ≡ old.control))

-- A property is read as its table says, otherwise with its value. Memory is wanted only for a copy of bytes, and only
-- after the table.
abbrev pub Gets : List Row → Property → Value → Result Answer NoMemory → Type 0
Gets rows p v outcome = MatchResult outcome
    (λ result. Decided rows result ⊤ (result ≡ answer.Done v))
    (λ want. IsTrue (is_of_bytes p) × (first_refusal rows ≡ None))
