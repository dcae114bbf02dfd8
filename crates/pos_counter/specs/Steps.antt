-- The steps of the device machine, and its runs.
use Rattle.std.specs.Bool.{MatchBool}
use Rattle.std.specs.List.{list_any}
use Rattle.std.specs.Prelude.{All, Bool, IfSome, IsSome, IsTrue, List, MatchOption, None, Ok, Option, Some, [], false}
use Rattle.std.specs.Prelude.{is_some, length, slice_get, true, ℕ, ⊤, ◌++◌, ◌<◌, ◌||◌, ◌∷◌, ◌≡◌, ◌≤◌, ◌⊎◌}
use Rattle.pos_service.specs.declared.category.Category.{Category}
use Rattle.pos_service.specs.declared.category.Category.TheVariants as category
use Rattle.pos_service.specs.declared.call.Call.{Call}
use Rattle.pos_service.specs.declared.call.Call.TheVariants as call
use Rattle.pos_service.specs.declared.context.OpenDevice.{OpenDevice}
use Rattle.pos_service.specs.declared.context.OpenDevice.TheVariants as open_device
use Rattle.pos_service.specs.declared.display_text.Place.{Place}
use Rattle.pos_service.specs.declared.input.Input.{Input}
use Rattle.pos_service.specs.declared.kind.Kind.{Kind}
use Rattle.pos_service.specs.declared.answer.Answer.{Answer}
use Rattle.pos_service.specs.declared.answer.Answer.TheVariants as answer
use Rattle.pos_service.specs.declared.answer.Value.TheVariants as value
use Rattle.pos_service.specs.declared.code.Code.TheVariants as code
use Rattle.pos_service.specs.declared.action.Action.{Action}
use Rattle.pos_service.specs.Displays.{is_cursor_place}
use Rattle.pos_service.specs.Kinds.{columns_of, is_display, rows_of}
use Rattle.pos_service.specs.Peripherals.{IsInRange, input_fits}
use Rattle.pos_service.specs.Controls.{Control, closed, deliverable, delivered, is_at, new_control, open_place, opened}
use Rattle.pos_service.specs.Claims.{after_release, claim_rows, claimed_by, holder_at, is_foreign, is_own, release_rows}
use Rattle.pos_service.specs.Claims.{released_by}
use Rattle.pos_service.specs.Refusals.{Decided, Row, first_refusal}
use Rattle.pos_service.specs.Calls.{close_rows, device_found, needs_of, open_rows, takes_memory as own_takes_memory}
use Rattle.pos_service.specs.Categories.{serves}
use Rattle.pos_service.specs.Properties.{after_set, get_rows, is_of_bytes, property_of, set_rows, tells_power}
use Rattle.pos_service.specs.Hardware.{Effect, Hardware, TakesIn}
use Rattle.pos_service.specs.Actions.{Does as CarriesOut}
use Rattle.pos_display.specs.DisplayCalls.{display_action, display_rows}
use Rattle.pos_drawer.specs.DrawerCalls.{drawer_action}
use Rattle.pos_service.specs.Needs.{table}
use Rattle.pos_printer.specs.PrinterCalls.{WorksAt, due_request_at, printer_action, printer_rows}
use Rattle.pos_scanner.specs.ScannerCalls.{scanner_action}
use Rattle.pos_service.specs.declared.property.Property.{Property}
use Rattle.pos_service.specs.declared.answer.Value.{Value}
use Rattle.pos_service.specs.declared.context.PropertyContext.{PropertyContext}
use Rattle.pos_service.specs.declared.request.Request.{Request as RequestOf}
pub use Rattle.pos_service.specs.declared.request.Request.TheVariants.{Attach, CallOf, Deliver, Detach, InputTo}
pub use Rattle.pos_service.specs.declared.request.Request.TheVariants.{NewControl, Snapshot, WorkOn}
use Rattle.pos_service.specs.declared.request.Response.{Response as ResponseOf}
pub use Rattle.pos_service.specs.declared.request.Response.TheVariants.{Answered, Attached, Delivered, Detached, Full}
pub use Rattle.pos_service.specs.declared.request.Response.TheVariants.{Made, NoDevice, NotAttached, NotDetached}
pub use Rattle.pos_service.specs.declared.request.Response.TheVariants.{OutOfMemory, Shown, TakenIn, Worked, WrongInput}
use Rattle.pos_service.specs.declared.faults.AttachFault.{AttachFault}
use Rattle.pos_service.specs.declared.faults.AttachFault.TheVariants as attach
use Rattle.pos_service.specs.declared.faults.DetachFault.{DetachFault}
use Rattle.pos_service.specs.declared.faults.DetachFault.TheVariants as detach
use Rattle.pos_totals.specs.HardTotals.{in_transaction, totals_limits, with_control as with_place}
use Rattle.pos_totals.specs.TotalsClaims.{is_area_taken, without_control}
use Rattle.pos_totals.specs.TotalsCalls.{file_call, file_rows}
use Rattle.pos_counter.specs.Totals.{Recovered, RecoversNothing, TotalsDo, files_summary, recovers}
use Rattle.pos_counter.specs.Machine.{Device, Machine, found_under, hardware_named, holder_of, kind_named, kind_of}
use Rattle.pos_counter.specs.Machine.{place_of, signs_at, with_control, with_hardware, with_standing, with_totals}

-- What may be asked of the machine. Controls have numbers, not names, and a peripheral to be attached is the hardware
-- that the device would have.
abbrev pub Request : Type 0
Request = RequestOf (Unit {0}) ℕ Hardware

-- what it may answer: a peripheral that it returns is the hardware that the device had, or would have
abbrev pub Response : Type 0
Response = ResponseOf Hardware

-- what is known of the control with a number and of its device, from which properties are read
abbrev pub context_of : Machine → ℕ → Control → PropertyContext
context_of machine number control = record {
  kind = kind_of machine control;
  signs = signs_at machine control;
  totals_size = (totals_limits machine.totals.totals.layout).bytes;
  files = files_summary machine.totals.totals.layout machine.totals.totals.mode;
  is_claimed = is_own number (holder_of machine control);
  in_transaction = in_transaction machine.totals.totals number;
}

-- how many controls there may be
abbrev pub most_controls : ℕ
most_controls = 4096

-- What happens at the hardware of a device, by what it does to the controls and the hardware.
pub record OnHardware (old : Machine) (at : Option ℕ) (Does : ℕ → Effect) (new : Machine) : Type 0 where
  pub place : ℕ
  pub device : Device
  pub before : Hardware
  pub controls : List Control
  pub after : Hardware
  pub is_at : at ≡ Some place
  pub is_device : slice_get old.devices place ≡ Some device
  pub is_attached : device.hardware ≡ Some before
  pub does : Does place old.controls before controls after
  pub machine : new ≡ with_hardware old controls place device after

-- the call of a control may want memory
abbrev pub takes_memory : Machine → Control → Call → Bool
takes_memory machine control (call.Open name) = true
takes_memory machine control call.Close = false
takes_memory machine control (call.Claim timeout) = false
takes_memory machine control call.Release = false
takes_memory machine control (call.Set property v) =
    recovers machine.totals control property v || tells_power control property v
takes_memory machine control (call.Get property) = is_of_bytes property
takes_memory machine control own = own_takes_memory own

-- what each call at a device of a kind requires after the check of its control, in order
abbrev pub device_rows : Category → Option Kind → Control → Call → List Row
device_rows category.LineDisplay at control own = display_rows at own
device_rows category.PosPrinter at control own = printer_rows control own
device_rows c at control own = []

-- what it comes to there
abbrev pub device_action : Category → Option Kind → Control → Call → Option Action
device_action category.CashDrawer at control own = drawer_action own
device_action category.Scanner at control own = scanner_action own
device_action category.LineDisplay at control own = display_action at control.cursor own
device_action category.PosPrinter at control own = printer_action control own
device_action category.HardTotals at control own = None

-- what it does at the hardware of the device, if nothing refuses it
abbrev pub DeviceDoes : Category → Option Kind → ℕ → Control → Call → Answer → ℕ → Effect
DeviceDoes c at number control own result place old before new after =
    MatchOption (device_action c at control own) ⊥
    (λ action. CarriesOut action number place result old before new after)

-- what each call of a category's own requires after the check of its control, in order: at the totals, or at its
-- device
abbrev pub own_rows : Option OpenDevice → Machine → ℕ → Control → Call → List Row
own_rows (Some open_device.Totals) machine number control own =
    file_rows machine.totals.totals number (file_call own)
own_rows device machine number control own = device_rows control.category (kind_of machine control) control own

-- what each call of a category's own does, if nothing refuses it: with the totals, or at its device's hardware
abbrev pub DoesOwn : Option OpenDevice → Machine → ℕ → Control → Call → Answer → Machine → Type 0
DoesOwn (Some open_device.Totals) old number control own result new =
    TotalsDo (file_call own) old.totals number result new.totals × (new ≡ record old { totals = new.totals })
DoesOwn device old number control own result new =
    OnHardware old (open_place device) (DeviceDoes control.category (kind_of old control) number control own result) new

-- another control keeps a device from the control with a number
abbrev pub is_taken : Option OpenDevice → Machine → ℕ → Bool
is_taken (Some open_device.Totals) machine number = is_area_taken machine.totals.totals number
is_taken device machine number = is_foreign number (holder_at machine.claims (open_place device))

-- the machine, once the control with a number holds a device
abbrev pub claimed : Option OpenDevice → Machine → ℕ → Machine
claimed (Some open_device.Totals) machine number =
    with_totals machine (record machine.totals.totals { area = Some number })
claimed device machine number =
    record machine { claims = claimed_by machine.claims (open_place device) number }

-- the machine, once the control with a number has released a device
abbrev pub released : Option OpenDevice → Machine → ℕ → Machine
released (Some open_device.Totals) machine number =
    with_totals machine (record machine.totals.totals { area = None })
released device machine number =
    record machine { claims = released_by machine.claims (open_place device) number }

-- the machine, once the control with a number has closed a device, and holds nothing
abbrev pub dropped : Option OpenDevice → Machine → ℕ → Machine
dropped (Some open_device.Totals) machine number =
    with_totals machine (without_control machine.totals.totals number)
dropped device machine number =
    record machine { claims = released_by machine.claims (open_place device) number }

-- The refusals of the call of the control with a number, in their order.
abbrev pub refusals : Machine → ℕ → Control → Call → List Row
refusals machine number control (call.Open name) = open_rows control (found_under machine control.category name)
refusals machine number control call.Close = close_rows control
refusals machine number control (call.Claim timeout) =
    claim_rows control (is_taken control.device machine number) timeout
refusals machine number control call.Release =
    release_rows control (is_own number (holder_of machine control))
refusals machine number control (call.Set property v) =
    set_rows number (holder_of machine control) (kind_of machine control) control property v
refusals machine number control (call.Get property) =
    get_rows number (holder_of machine control) control (context_of machine number control) property
refusals machine number control own =
    table number (holder_of machine control) control (needs_of control.category own)
    (own_rows control.device machine number control own)

-- a property is set, and nothing else changes
abbrev pub Sets : Machine → ℕ → Control → Property → Value → Answer → Machine → Type 0
Sets old number control property v result new =
    (result ≡ answer.Done value.Empty)
    × (new ≡ with_control old number (after_set (signs_at old control) control property v))

-- DeviceEnabled is set once the totals are recovered, and stays as it is if they aren't
abbrev pub SetsByRecovery : Machine → ℕ → Control → Property → Value → Answer → Machine → Type 0
SetsByRecovery old number control property v result new =
    ((result ≡ answer.Done value.Empty) × Recovered old.totals new.totals
    × (new ≡ record (with_control old number (after_set (signs_at old control) control property v)) {
      totals = new.totals;
    }))
    ⊎ (RecoversNothing old.totals result new.totals × (new ≡ record old { totals = new.totals }))

-- What each call does if nothing refuses it.
abbrev pub Does : Machine → ℕ → Control → Call → Answer → Machine → Type 0
Does old number control (call.Open name) result new =
    (result ≡ answer.Done value.Empty)
    × (new ≡ with_control old number (opened control (device_found (found_under old control.category name))))
Does old number control call.Close result new =
    (result ≡ answer.Done value.Empty)
    × (new ≡ dropped control.device (with_control old number (closed control)) number)
Does old number control (call.Claim timeout) result new =
    (result ≡ answer.Done value.Empty) × (new ≡ claimed control.device old number)
Does old number control call.Release result new =
    (result ≡ answer.Done value.Empty)
    × (new ≡ released control.device (with_control old number (after_release control.category control)) number)
Does old number control (call.Set property v) result new =
    MatchBool (recovers old.totals control property v) (SetsByRecovery old number control property v result new)
    (Sets old number control property v result new)
Does old number control (call.Get property) result new =
    (result ≡ answer.Done (property_of control (context_of old number control) property)) × (new ≡ old)
Does old number control own result new = DoesOwn control.device old number control own result new

-- A call on a control: by its table of refusals, and then by what it does.
abbrev pub Called : Machine → ℕ → Control → Call → Answer → Machine → Type 0
Called old number control call result new =
    Decided (refusals old number control call) result (new ≡ old) (Does old number control call result new)

-- A call may find no memory only if it takes some and nothing refuses it before, and then nothing has changed.
abbrev pub Wants : Machine → ℕ → Control → Call → Machine → Type 0
Wants old number control call new =
    IsTrue (takes_memory old control call) × (first_refusal (refusals old number control call) ≡ None) × (new ≡ old)

-- A device has a peripheral, and the input fits its kind, or doesn't.
pub record FindsFit (hardware : Option Hardware) (input : Input) (fits : Bool) : Type 0 where
  pub before : Hardware
  pub is_attached : hardware ≡ Some before
  pub fit : input_fits before.kind input ≡ fits

-- There is a request that is to be done now at the device of this name.
pub record FindsWork (machine : Machine) (name : List ℕ) : Type 0 where
  pub place : ℕ
  pub before : Hardware
  pub is_at : place_of machine.devices name ≡ Some place
  pub is_attached : hardware_named machine name ≡ Some before
  pub work : IsSome (due_request_at before.kind place (holder_at machine.claims (Some place)) machine.controls)

-- The device of this name, which is vacant, has a peripheral of its kind from now on.
pub record IsAttached (old : Machine) (name : List ℕ) (hardware : Hardware) (new : Machine) : Type 0 where
  pub place : ℕ
  pub device : Device
  pub is_at : place_of old.devices name ≡ Some place
  pub is_device : slice_get old.devices place ≡ Some device
  pub is_vacant : device.hardware ≡ None
  pub kind : device.kind ≡ hardware.kind
  pub machine : new ≡ with_standing old place device (Some hardware)

-- The device of this name is vacant, and of another kind than the peripheral.
pub record IsOfAnotherKind (machine : Machine) (name : List ℕ) (hardware : Hardware) : Type 0 where
  pub kind : Kind
  pub named : kind_named machine name ≡ Some kind
  pub is_vacant : hardware_named machine name ≡ None
  pub differs : ¬ (hardware.kind ≡ kind)

-- why a peripheral is not attached: no device has the name, the device has its peripheral, or it is of another kind
abbrev pub IsNotAttachedFor : Machine → List ℕ → Hardware → AttachFault → Type 0
IsNotAttachedFor machine name hardware attach.Unknown = kind_named machine name ≡ None
IsNotAttachedFor machine name hardware attach.KindDiffers = IsOfAnotherKind machine name hardware
IsNotAttachedFor machine name hardware attach.InUse = IsSome (hardware_named machine name)

-- the control has the device at a place open
abbrev pub has_open : ℕ → Control → Bool
has_open place control = is_at control.device place

-- one of the controls has
abbrev pub is_open_at : ℕ → List Control → Bool
is_open_at place controls = list_any (has_open place) controls

-- The device of this name, which no control has open, had this hardware and is vacant from now on.
pub record IsDetached (old : Machine) (name : List ℕ) (hardware : Hardware) (new : Machine) : Type 0 where
  pub place : ℕ
  pub device : Device
  pub is_at : place_of old.devices name ≡ Some place
  pub is_device : slice_get old.devices place ≡ Some device
  pub is_attached : device.hardware ≡ Some hardware
  pub is_closed : is_open_at place old.controls ≡ false
  pub machine : new ≡ with_standing old place device None

-- The device of this name has its peripheral, and a control has it open.
pub record IsOpenUnder (machine : Machine) (name : List ℕ) : Type 0 where
  pub place : ℕ
  pub is_at : place_of machine.devices name ≡ Some place
  pub is_attached : IsSome (hardware_named machine name)
  pub is_open : is_open_at place machine.controls ≡ true

-- why no peripheral is detached: no device has the name, the device is vacant, or a control has it open
abbrev pub IsNotDetachedFor : Machine → List ℕ → DetachFault → Type 0
IsNotDetachedFor machine name detach.Unknown = kind_named machine name ≡ None
IsNotDetachedFor machine name detach.Vacant =
    IsSome (kind_named machine name) × (hardware_named machine name ≡ None)
IsNotDetachedFor machine name detach.InUse = IsOpenUnder machine name

-- From old, the machine may give this response to the request, and is new then.
abbrev pub Step : Machine → Request → Response → Machine → Type 0
Step old (NewControl u category) (Made number) new =
    (length old.controls < most_controls) × (number ≡ length old.controls)
    × (new ≡ record (with_totals old (with_place old.totals.totals)) {
      controls = old.controls ++ new_control category ∷ [];
    })
Step old (NewControl u category) Full new = (most_controls ≤ length old.controls) × (new ≡ old)
Step old (NewControl u category) OutOfMemory new = (length old.controls < most_controls) × (new ≡ old)
-- a call on a control that isn't there is illegal
Step old (CallOf number call) (Answered result) new =
    MatchOption (slice_get old.controls number) ((result ≡ answer.Refused code.Illegal 0) × (new ≡ old))
    (λ control. Called old number control call result new)
Step old (CallOf number call) OutOfMemory new =
    MatchOption (slice_get old.controls number) ⊥ (λ control. Wants old number control call new)
Step old (InputTo name input) TakenIn new = OnHardware old (place_of old.devices name) (TakesIn input) new
Step old (InputTo name input) NoDevice new = (hardware_named old name ≡ None) × (new ≡ old)
Step old (InputTo name input) WrongInput new = FindsFit (hardware_named old name) input false × (new ≡ old)
Step old (InputTo name input) OutOfMemory new = FindsFit (hardware_named old name) input true × (new ≡ old)
Step old (WorkOn name) (Worked result) new =
    OnHardware old (place_of old.devices name)
    (λ place. WorksAt (holder_at old.claims (Some place)) place (Ok result)) new
Step old (WorkOn name) NoDevice new = (hardware_named old name ≡ None) × (new ≡ old)
Step old (WorkOn name) OutOfMemory new = FindsWork old name × (new ≡ old)
Step old (Deliver number reply) (Delivered event) new =
    MatchOption (slice_get old.controls number) ((event ≡ None) × (new ≡ old))
    (λ control. (event ≡ deliverable control) × (new ≡ with_control old number (delivered reply control)))
Step old (Snapshot name) (Shown shown) new =
    IfSome (hardware_named old name) (λ hardware. hardware.plant ≡ shown.0)
    × (is_some (hardware_named old name) ≡ true) × (new ≡ old)
Step old (Snapshot name) NoDevice new = (hardware_named old name ≡ None) × (new ≡ old)
Step old (Snapshot name) OutOfMemory new = (is_some (hardware_named old name) ≡ true) × (new ≡ old)
Step old (Attach name hardware) Attached new = IsAttached old name hardware new
-- a refusal hands the peripheral back as it is
Step old (Attach name hardware) (NotAttached fault given) new =
    IsNotAttachedFor old name hardware fault × (given ≡ hardware) × (new ≡ old)
Step old (Detach name) (Detached hardware) new = IsDetached old name hardware new
Step old (Detach name) (NotDetached fault) new = IsNotDetachedFor old name fault × (new ≡ old)
-- no other response is given
Step old request response new = ⊥

-- The machine may give these responses to these requests, one step after another.
abbrev pub Run : Machine → List (Request × Response) → Machine → Type 0
Run old [] new = new ≡ old
Run old (step ∷ steps) new = (mid : Machine) × Step old step.0 step.1 mid × Run mid steps new

-- A device's kind is in range, and its peripheral, if it has one, is of this kind.
abbrev pub HasItsKind : Device → Type 0
HasItsKind device = IsInRange device.kind × IfSome device.hardware (λ hardware. device.kind ≡ hardware.kind)

-- A place is on a device, if that is a display.
abbrev pub IsPlaceOn : Option Kind → Place → Type 0
IsPlaceOn at place =
    IfSome at (λ kind. is_display kind ≡ true → is_cursor_place (rows_of at) (columns_of at) place ≡ true)

-- Controls of a category may open the device, which has a peripheral. If that is a display, the cursor is at one of its
-- places.
abbrev pub IsServed : Category → Place → Device → Type 0
IsServed category cursor device =
    (serves category device.kind ≡ true) × (is_some device.hardware ≡ true) × IsPlaceOn (Some device.kind) cursor

-- What a control of a category has open is there, and serves it: the device at a place, or the Hard Totals.
abbrev pub IsOpenFor : List Device → Category → Place → Option OpenDevice → Type 0
IsOpenFor devices c cursor None = ⊤
IsOpenFor devices c cursor (Some (open_device.At place)) = MatchOption (slice_get devices place) ⊥ (IsServed c cursor)
IsOpenFor devices c cursor (Some open_device.Totals) = c ≡ category.HardTotals

-- The device of an open control is there, and serves it.
abbrev pub HasItsDevice : List Device → Control → Type 0
HasItsDevice devices control = IsOpenFor devices control.category control.cursor.place control.device

-- What is true of every machine that a counter stands for.
pub record IsSound (machine : Machine) : Type 0 where
  pub kinds : All HasItsKind machine.devices
  pub places : All (HasItsDevice machine.devices) machine.controls
  -- there is a claim for each device
  pub covers : length machine.claims ≡ length machine.devices
