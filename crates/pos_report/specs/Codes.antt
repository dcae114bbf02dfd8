-- The names of the standard's codes, with the numbers that a counter answers and sends (docs/reference/tool.md,
-- "explain").
use Rattle.std.specs.Prelude.{◌++◌, ◌∷◌, ℕ, List, [], Some, None, true, false, codes, map}
use Rattle.pos_service.specs.Codes.{eptr_cover_open, eptr_rec_empty, etot_noroom, locus_number_of, number_of}
use Rattle.pos_service.specs.Controls.{Control, new_control, opened, output_failed, queued, state_of}
use Rattle.pos_service.specs.Hardware.{signs_in}
use Rattle.pos_service.specs.Properties.{power_state}
use Rattle.pos_service.specs.Statuses.{cover_status, drawer_status, paper_status, power_status}
use Rattle.pos_service.specs.declared.category.Category.TheVariants as category
use Rattle.pos_service.specs.declared.code.Code.TheVariants as code
use Rattle.pos_service.specs.declared.context.OpenDevice.TheVariants as open_device
use Rattle.pos_service.specs.declared.event.Locus.TheVariants as locus
use Rattle.pos_service.specs.declared.order.Order.TheVariants as order
use Rattle.pos_service.specs.declared.signs.PaperLevel.TheVariants as paper
use Rattle.pos_report.specs.declared.codes.Code.{Code}

-- names of one kind, each with its number
abbrev pub NamedNumbers : Type 0
NamedNumbers = List (List ℕ × ℕ)

-- the result codes (common chapter, ErrorCode)
abbrev pub result_codes : NamedNumbers
result_codes = (codes "E_SUCCESS", number_of code.Success)
    ∷ (codes "E_CLOSED", number_of code.Closed)
    ∷ (codes "E_CLAIMED", number_of code.Claimed)
    ∷ (codes "E_NOTCLAIMED", number_of code.NotClaimed)
    ∷ (codes "E_NOSERVICE", number_of code.NoService)
    ∷ (codes "E_DISABLED", number_of code.Disabled)
    ∷ (codes "E_ILLEGAL", number_of code.Illegal)
    ∷ (codes "E_NOHARDWARE", number_of code.NoHardware)
    ∷ (codes "E_OFFLINE", number_of code.Offline)
    ∷ (codes "E_NOEXIST", number_of code.NoExist)
    ∷ (codes "E_EXISTS", number_of code.Exists)
    ∷ (codes "E_FAILURE", number_of code.Failure)
    ∷ (codes "E_TIMEOUT", number_of code.Timeout)
    ∷ (codes "E_BUSY", number_of code.Busy)
    ∷ (codes "E_EXTENDED", number_of code.Extended)
    ∷ []

-- the extended codes (chapters Hard Totals and POS Printer)
abbrev pub extended_codes : NamedNumbers
extended_codes = (codes "ETOT_NOROOM", etot_noroom)
    ∷ (codes "EPTR_COVER_OPEN", eptr_cover_open)
    ∷ (codes "EPTR_REC_EMPTY", eptr_rec_empty)
    ∷ []

-- the statuses of StatusUpdateEvents (chapters Cash Drawer and POS Printer, and common chapter, device power reporting)
abbrev pub statuses : NamedNumbers
statuses = (codes "CASH_SUE_DRAWERCLOSED", drawer_status false)
    ∷ (codes "CASH_SUE_DRAWEROPEN", drawer_status true)
    ∷ (codes "PTR_SUE_COVER_OPEN", cover_status true)
    ∷ (codes "PTR_SUE_COVER_OK", cover_status false)
    ∷ (codes "PTR_SUE_REC_EMPTY", paper_status paper.Empty)
    ∷ (codes "PTR_SUE_REC_NEAREMPTY", paper_status paper.NearEnd)
    ∷ (codes "PTR_SUE_REC_PAPEROK", paper_status paper.Good)
    ∷ (codes "SUE_POWER_ONLINE", power_status true)
    ∷ (codes "SUE_POWER_OFF_OFFLINE", power_status false)
    ∷ []

-- a printer's control in each state: as it is made, with an open device, with a request, and once that has failed
abbrev pub closed_control : Control
closed_control = new_control category.PosPrinter

abbrev pub idle_control : Control
idle_control = opened closed_control (Some (open_device.At 0))

abbrev pub busy_control : Control
busy_control = queued (order.Cut 100) idle_control

abbrev pub failed_control : Control
failed_control = output_failed code.Failure 0 busy_control

-- the values of State (common chapter)
abbrev pub states : NamedNumbers
states = (codes "S_CLOSED", state_of closed_control)
    ∷ (codes "S_IDLE", state_of idle_control)
    ∷ (codes "S_BUSY", state_of busy_control)
    ∷ (codes "S_ERROR", state_of failed_control)
    ∷ []

-- the values of PowerState (common chapter): that of a control that isn't enabled, and those of a device's power
abbrev pub power_states : NamedNumbers
power_states = (codes "PS_UNKNOWN", power_state idle_control (signs_in None))
    ∷ (codes "PS_ONLINE", power_status true)
    ∷ (codes "PS_OFF_OFFLINE", power_status false)
    ∷ []

-- the loci of ErrorEvents (common chapter, ErrorLocus)
abbrev pub loci : NamedNumbers
loci = (codes "EL_OUTPUT", locus_number_of locus.Output)
    ∷ (codes "EL_INPUT", locus_number_of locus.Input)
    ∷ (codes "EL_INPUT_DATA", locus_number_of locus.InputData)
    ∷ []

-- the replies to ErrorEvents (common chapter, ErrorResponse). A counter takes them by name, so the numbers stand here.
abbrev pub replies : NamedNumbers
replies = (codes "ER_RETRY", 11) ∷ (codes "ER_CLEAR", 12) ∷ (codes "ER_CONTINUEINPUT", 13) ∷ []

-- each name with its kind
abbrev pub of_kind : List ℕ → NamedNumbers → List (List ℕ × List ℕ × ℕ)
of_kind kind names = map (λ it. (kind, it.0, it.1)) names

-- the kinds, names and numbers of all
abbrev pub standard_codes : List (List ℕ × List ℕ × ℕ)
standard_codes = of_kind (codes "result code") result_codes
    ++ of_kind (codes "extended code") extended_codes
    ++ of_kind (codes "status of a StatusUpdateEvent") statuses
    ++ of_kind (codes "value of PowerState") power_states
    ++ of_kind (codes "value of State") states
    ++ of_kind (codes "locus of an ErrorEvent") loci
    ++ of_kind (codes "reply to an ErrorEvent") replies

-- the kind, the name and the number of a code
abbrev pub identity_of : Code → List ℕ × List ℕ × ℕ
identity_of code = (code.kind.now, code.name.now, code.number)
