-- What a line prints (docs/reference/console.md, "Answers").
use Rattle.std.specs.Prelude.{ℕ, ◌++◌, Bool, true, false, List, [], ◌∷◌, Option, Some, None, codes, decimal}
use Rattle.std.specs.Fmt.{signed_decimal}
use Rattle.hex.specs.Hex.{encode_lower}
use Rattle.pos_service.specs.declared.answer.Value.{Value}
use Rattle.pos_service.specs.declared.answer.Value.TheVariants as value
use Rattle.pos_service.specs.declared.answer.Answer.{Answer}
use Rattle.pos_service.specs.declared.answer.Answer.TheVariants as answer
use Rattle.pos_service.specs.declared.code.Code.{Code}
use Rattle.pos_service.specs.declared.code.Code.TheVariants as code
use Rattle.pos_service.specs.declared.event.Event.{Event}
use Rattle.pos_service.specs.declared.event.Event.TheVariants as event
use Rattle.pos_service.specs.declared.faults.AttachFault.{AttachFault}
use Rattle.pos_service.specs.declared.faults.AttachFault.TheVariants as attach
use Rattle.pos_service.specs.declared.faults.DetachFault.{DetachFault}
use Rattle.pos_service.specs.declared.faults.DetachFault.TheVariants as detach
use Rattle.pos_service.specs.declared.plant.Plant.{Plant}
use Rattle.pos_service.specs.declared.plant.Mechanism.{Mechanism}
use Rattle.pos_service.specs.declared.plant.Mechanism.TheVariants as mechanism
use Rattle.pos_service.specs.declared.request.Response.{Response}
use Rattle.pos_service.specs.declared.request.Response.TheVariants as response
use Rattle.pos_service.specs.declared.answer.WorkResult.{WorkResult}
use Rattle.pos_service.specs.declared.answer.WorkResult.TheVariants as worked
use Rattle.pos_service.specs.Codes.{number_of, locus_number_of}
use Rattle.pos_script.specs.Glyphs.{cells_text}
use Rattle.pos_script.specs.ReceiptText.{printer_text}
use Rattle.pos_script.specs.declared.arguments.ArgumentFault.{ArgumentFault}
use Rattle.pos_script.specs.declared.arguments.ArgumentFault.TheVariants as fault
use Rattle.pos_script.specs.declared.print.LineReply.{LineReply}
use Rattle.pos_script.specs.declared.print.LineReply.TheVariants as reply

-- a truth value
abbrev pub truth_text : Bool → List ℕ
truth_text true = codes "true"
truth_text false = codes "false"

-- bytes in lower-case hex, and a hyphen for none
abbrev pub hex_text : List ℕ → List ℕ
hex_text [] = codes "-"
hex_text (b ∷ bs) = encode_lower (b ∷ bs)

-- a value behind `ok`
abbrev pub value_text : Value → List ℕ
value_text value.Empty = []
value_text (value.Truth b) = codes " " ++ truth_text b
value_text (value.Number n) = codes " " ++ signed_decimal n
value_text (value.Pair m n) = codes " " ++ signed_decimal m ++ codes " " ++ signed_decimal n
value_text (value.Bytes bytes) = codes " " ++ hex_text bytes

-- the extended code, which is printed behind E_EXTENDED alone
abbrev pub extended_text : Code → ℕ → List ℕ
extended_text code.Extended extended = codes " " ++ decimal extended
extended_text code extended = []

-- what a call is answered
abbrev pub answer_text : Answer → List ℕ
answer_text (answer.Done value) = codes "ok" ++ value_text value
answer_text (answer.Refused code extended) = codes "err " ++ decimal (number_of code) ++ extended_text code extended

-- a delivered event
abbrev pub event_text : Event → List ℕ
event_text (event.StatusUpdate n) = codes "event StatusUpdateEvent " ++ decimal n
event_text event.Data = codes "event DataEvent 0"
event_text (event.Error code extended locus) =
    codes "event ErrorEvent " ++ decimal (number_of code) ++ codes " " ++ decimal extended ++ codes " "
    ++ decimal (locus_number_of locus)
event_text (event.OutputComplete id) = codes "event OutputCompleteEvent " ++ decimal id

-- the event that was delivered, if there was one
abbrev pub delivered_text : Option Event → List ℕ
delivered_text None = codes "none"
delivered_text (Some event) = event_text event

-- what came of work on a device's output
abbrev pub worked_text : WorkResult → List ℕ
worked_text worked.Idle = codes "idle"
worked_text (worked.Done id) = codes "done " ++ decimal id
worked_text (worked.Failed code extended) =
    codes "failed " ++ decimal (number_of code) ++ codes " " ++ decimal extended

-- what a device is physically by its kind
abbrev pub mechanism_text : Mechanism → List ℕ
mechanism_text (mechanism.Drawer true) = codes "ok open"
mechanism_text (mechanism.Drawer false) = codes "ok closed"
mechanism_text mechanism.Scanner = codes "ok"
mechanism_text (mechanism.Display shown) = codes "ok " ++ cells_text shown.cells
mechanism_text (mechanism.Printer printed) = codes "ok " ++ printer_text printed

-- what a device is physically: its power isn't printed
abbrev pub plant_text : Plant → List ℕ
plant_text plant = mechanism_text plant.mechanism

-- why a peripheral was not attached
abbrev pub attach_text : AttachFault → List ℕ
attach_text attach.Unknown = codes "refused Unknown"
attach_text attach.KindDiffers = codes "refused KindDiffers"
attach_text attach.InUse = codes "refused InUse"

-- why a peripheral was not detached
abbrev pub detach_text : DetachFault → List ℕ
detach_text detach.Unknown = codes "refused Unknown"
detach_text detach.Vacant = codes "refused Vacant"
detach_text detach.InUse = codes "refused InUse"

-- what a counter answers
abbrev pub response_text : {P : Type 0} → Response P → List ℕ
response_text (response.Made number) = codes "ok"
response_text response.Full = codes "refused Full"
response_text (response.Answered answer) = answer_text answer
response_text response.TakenIn = codes "ok"
response_text response.NoDevice = codes "bad device"
response_text response.WrongInput = codes "bad input"
response_text (response.Worked result) = worked_text result
response_text (response.Delivered event) = delivered_text event
response_text (response.Shown snapshot) = plant_text snapshot.0
response_text response.Attached = codes "ok"
response_text (response.NotAttached fault peripheral) = attach_text fault
response_text (response.Detached peripheral) = codes "ok"
response_text (response.NotDetached fault) = detach_text fault
response_text response.OutOfMemory = codes "memory"

-- what the program says of a line
abbrev pub reply_text : LineReply → List ℕ
reply_text reply.BadLine = codes "bad line"
reply_text reply.BadControl = codes "bad control"
reply_text reply.BadSpare = codes "bad spare"
reply_text reply.Memory = codes "memory"
reply_text (reply.Responded response) = response_text response

-- what is printed for a line that was not read
abbrev pub fault_text : ArgumentFault → List ℕ
fault_text fault.WrongShape = reply_text reply.BadLine
fault_text fault.NoMemory = reply_text reply.Memory

-- what is printed for a line: nothing, or a line
abbrev pub printed : Option (List ℕ) → List ℕ
printed None = []
printed (Some reply) = reply ++ 10 ∷ []
