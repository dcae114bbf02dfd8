-- The bytes of driven devices' orders, and what printers reply (abi/README.md, "Bytes of orders").
use Rattle.std.specs.Prelude.{◌≡◌, ◌≤◌, ◌<◌, ◌⊎◌, ◌++◌, ◌==◌, [], ℕ, Bool, List, Option, Some, None, drop, false}
use Rattle.std.specs.Prelude.{if◌then◌else◌, length, nat_le, not, option_map, true}
use Rattle.std.specs.Bool.{MatchBool}
use Rattle.pos_service.specs.declared.order.Order.{Order}
use Rattle.pos_service.specs.declared.peripheral.Peripheral.{Ghosts}
use Rattle.pos_service.specs.Peripherals.{PeripheralState, order_fits, signs_of}
use Rattle.pos_drive.specs.Courses.{order_in}
use Rattle.pos_drive.specs.declared.courses.Course.{Course}
use Rattle.pos_escpos.specs.declared.printer_commands.NowStatus.TheVariants as now_status
use Rattle.pos_escpos.specs.declared.printer_commands.OrderStatus.TheVariants as order_status
use Rattle.pos_escpos.specs.declared.statuses.PrinterReply.{PrinterReply}
use Rattle.pos_wire.specs.Orders.{HasNoBytes, SendsOrder}
use Rattle.pos_wire.specs.Replies.{Reads, reader_of}
use Rattle.pos_wire.specs.ReplyLines.{ReplyHasText, has_replies}
use Rattle.pos_wire.specs.Settings.{settings_fit}
use Rattle.pos_wire.specs.declared.frames.JobEnd.{JobEnd}
use Rattle.pos_wire.specs.declared.frames.JobEnd.TheVariants as job_end
use Rattle.pos_wire.specs.declared.replies.AwaitedReply.{AwaitedReply}
use Rattle.pos_wire.specs.declared.replies.AwaitedReply.TheVariants as asked
use Rattle.pos_wire.specs.declared.replies.ReplyRead.{ReplyRead}
use Rattle.pos_wire.specs.declared.settings.WireSettings.{WireSettings}
use Rattle.pos_run.specs.declared.wrapped.Wrapped.{Wrapped}
use Rattle.pos_run.specs.Simulations.{wrapped_state}
use Rattle.pos_counter.specs.Hosts.{pending_peripheral, served_named}
use Rattle.pos_counter.specs.KeptDevices.{slots_in}
use Rattle.kijolvar.specs.declared.device.Device.{Device}
use Rattle.kijolvar.specs.declared.till_state.TillState.{TillState}
use Rattle.kijolvar.specs.Codes.{bad_settings, no_device, no_memory, no_order, ok, short}
use Rattle.kijolvar.specs.Tills.{WritesNothing}

-- what is asked behind an order's bytes, by its number: a job of this number, GS r 1, GS r 2, or nothing
abbrev pub end_numbered : ℕ → JobEnd
end_numbered number =
    if nat_le number 65535 then job_end.Job number
    else (if number == 65536 then job_end.Status order_status.Paper
    else (if number == 65537 then job_end.Status order_status.Drawer else job_end.Nothing))

-- what was asked of a printer, by its number: DLE EOT 1 to 4, GS r 1, GS r 2, or nothing
abbrev pub asked_numbered : ℕ → AwaitedReply
asked_numbered number =
    if number == 1 then asked.Now now_status.Printer
    else (if number == 2 then asked.Now now_status.OfflineCause
    else (if number == 3 then asked.Now now_status.Fault
    else (if number == 4 then asked.Now now_status.Paper
    else (if number == 5 then asked.InOrder order_status.Paper
    else (if number == 6 then asked.InOrder order_status.Drawer else asked.Nothing)))))

-- the simulated peripheral in a device, and the device's order that waits or that the host has
abbrev pub order_with : (Device → Course) → Option (List ℕ × Device) → Option (Wrapped × Order)
order_with hosts None = None
order_with hosts (Some (name, device)) = option_map (λ given. (device.driven.twin, given)) (order_in (hosts device))

-- the same of the device that has an order pending
abbrev pub pending_order : (Device → Course) → TillState → Option (Wrapped × Order)
pending_order hosts till = order_with hosts (pending_peripheral hosts (slots_in till.counter.devices))

-- all of these bytes are written if there is room for them, and how many they are is told
abbrev pub WritesWhole : List ℕ → (before after : List ℕ) (needed code : ℕ) → Type 0
WritesWhole bytes before after needed code = (needed ≡ length bytes)
    × (((length bytes ≤ length before) × (code ≡ ok) × (after ≡ bytes ++ drop (length bytes) before))
    ⊎ ((length before < length bytes) × (code ≡ short) × (after ≡ before)))

-- The bytes by which the hardware does what the device machine does at the order are told.
pub record WritesBytes (settings : WireSettings) (is_new : Bool) (behind : JobEnd) (state : PeripheralState)
    (given : Order) (before after : List ℕ) (needed code : ℕ) : Type 0 where
  pub bytes : List ℕ
  pub sends : SendsOrder settings is_new behind state given bytes
  pub fit : settings_fit state.kind settings ≡ true
  pub tells : WritesWhole bytes before after needed code

-- why the bytes of an order aren't told: there was no memory, the settings are out of range, or it has none
abbrev pub IsNoBytesCode : WireSettings → Bool → PeripheralState → Order → (code : ℕ) → Type 0
IsNoBytesCode settings is_new state given code = (code ≡ no_memory)
    ⊎ ((code ≡ bad_settings) × (settings_fit state.kind settings ≡ false))
    ⊎ ((code ≡ no_order) × (settings_fit state.kind settings ≡ true)
    × (order_fits state.kind given ≡ true → HasNoBytes is_new state given))

-- Nothing is written, for this cause.
pub record WritesNoBytes (settings : WireSettings) (is_new : Bool) (state : PeripheralState) (given : Order)
    (before after : List ℕ) (needed_before needed code : ℕ) : Type 0 where
  pub why : IsNoBytesCode settings is_new state given code
  pub tells : WritesNothing before after needed_before needed code code

-- what is told of an order of a simulated peripheral, if there is one
abbrev pub AnswersBytesOf : Option (Wrapped × Order) → WireSettings → (is_new behind : ℕ) (before after : List ℕ)
    (needed_before needed code : ℕ) → Type 0
AnswersBytesOf None settings is_new behind before after needed_before needed code =
    WritesNothing before after needed_before needed code no_order
AnswersBytesOf (Some (twin, given)) settings is_new behind before after needed_before needed code =
    WritesBytes settings (not (is_new == 0)) (end_numbered behind) (wrapped_state twin) given before after needed code
    ⊎ WritesNoBytes settings (not (is_new == 0)) (wrapped_state twin) given before after needed_before needed code

-- what is told of the bytes of the order that is pending
abbrev pub AnswersOrderBytes : (Device → Course) → TillState → WireSettings
    → (is_new behind : ℕ) (before after : List ℕ)
    (needed_before needed code : ℕ) → Type 0
AnswersOrderBytes hosts till = AnswersBytesOf (pending_order hosts till)

-- a count that is told, or that stays if the code says that there was no room
abbrev pub count_told : (code : ℕ) (before count : ℕ) → ℕ
count_told code before count = if code == ok then count else before

-- a text is that of the reply; it is empty if there is no reply
abbrev pub IsText : Option PrinterReply → (PrinterReply → List ℕ → Type 0) → List ℕ → Type 0
IsText None is_of text = text ≡ []
IsText (Some reply) is_of text = is_of reply text

-- Bytes are read up to the end of the first reply, and its text is told. Without room for it none counts as read. If
-- no reply ends in them, the text is empty.
pub record WritesFirst (settings : WireSettings) (name : List ℕ) (state : PeripheralState) (expected : AwaitedReply)
    (bytes : List ℕ) (used_before used skipped_before skipped : ℕ) (before after : List ℕ) (needed code : ℕ) : Type 0
  where
    pub read : ReplyRead
    pub reads : Reads (reader_of expected) bytes read read.reply
    pub used_told : used ≡ count_told code used_before read.used
    pub skipped_told : skipped ≡ count_told code skipped_before read.skipped
    pub fit : settings_fit state.kind settings ≡ true
    pub text : List ℕ
    pub is : IsText read.reply (ReplyHasText settings name state.kind (signs_of state.kind state.plant)) text
    pub tells : WritesWhole text before after needed code

-- nothing is written, and the code is this one
pub record WritesNoReply (used_before used skipped_before skipped : ℕ) (before after : List ℕ)
    (needed_before needed code why : ℕ) : Type 0 where
  pub used_stays : used ≡ used_before
  pub skipped_stays : skipped ≡ skipped_before
  pub tells : WritesNothing before after needed_before needed code why

-- why no reply is told: there was no memory, or the settings are out of range
abbrev pub IsNoReplyCode : WireSettings → PeripheralState → (code : ℕ) → Type 0
IsNoReplyCode settings state code =
    (code ≡ no_memory) ⊎ ((code ≡ bad_settings) × (settings_fit state.kind settings ≡ false))

-- what is told of bytes that a printer sent, for a device of a kind that has replies
abbrev pub AnswersReplyOf : PeripheralState → WireSettings → (name : List ℕ) (expected : AwaitedReply) (bytes : List ℕ)
    (used_before used skipped_before skipped : ℕ) (before after : List ℕ) (needed_before needed code : ℕ) → Type 0
AnswersReplyOf state settings name expected bytes used_before used skipped_before skipped before after needed_before
    needed code =
    WritesFirst settings name state expected bytes used_before used skipped_before skipped before after needed code
    ⊎ (IsNoReplyCode settings state code
    × WritesNoReply used_before used skipped_before skipped before after needed_before needed code code)

-- what is told of bytes that a printer sent, by what serves the device of a name: only a printer and a drawer have
-- replies
abbrev pub AnswersRepliesFor : Ghosts Device → Option Device → WireSettings → (name : List ℕ) (expected : AwaitedReply)
    (bytes : List ℕ) (used_before used skipped_before skipped : ℕ) (before after : List ℕ)
    (needed_before needed code : ℕ) → Type 0
AnswersRepliesFor peripherals None settings name expected bytes used_before used skipped_before skipped before after
    needed_before needed code =
    WritesNoReply used_before used skipped_before skipped before after needed_before needed code no_device
AnswersRepliesFor peripherals (Some device) settings name expected bytes used_before used skipped_before skipped before
    after needed_before needed code = MatchBool (has_replies (peripherals.state device).kind)
    (AnswersReplyOf (peripherals.state device) settings name expected bytes used_before used skipped_before skipped
    before after needed_before needed code)
    (WritesNoReply used_before used skipped_before skipped before after needed_before needed code no_device)

abbrev pub AnswersReplies : Ghosts Device → TillState → WireSettings → (name : List ℕ) (expected : ℕ) (bytes : List ℕ)
    (used_before used skipped_before skipped : ℕ) (before after : List ℕ) (needed_before needed code : ℕ) → Type 0
AnswersReplies peripherals till settings name expected =
    AnswersRepliesFor peripherals (served_named name (slots_in till.counter.devices)) settings name
    (asked_numbered expected)
