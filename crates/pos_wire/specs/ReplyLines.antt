-- A printer's reply as lines (docs/reference/console.md, "Lines", for those of inputs).
use Rattle.std.specs.Prelude.{◌≡◌, ℕ, Bool, true, false, List, [], ◌++◌, Option, Some, None, codes, decimal, ◌==◌}
use Rattle.std.specs.List.{flat_map}
use Rattle.pos_service.specs.declared.input.Input.{Input}
use Rattle.pos_service.specs.declared.kind.Kind.{Kind}
use Rattle.pos_service.specs.declared.kind.Kind.TheVariants as kind
use Rattle.pos_service.specs.declared.signs.PaperLevel.{PaperLevel}
use Rattle.pos_service.specs.declared.signs.PaperLevel.TheVariants as paper
use Rattle.pos_service.specs.declared.signs.Signs.{Signs}
use Rattle.pos_service.specs.Peripherals.{input_number, input_words}
use Rattle.pos_escpos.specs.declared.settings.SensorSettings.{SensorSettings}
use Rattle.pos_escpos.specs.declared.statuses.PrinterReply.{PrinterReply}
use Rattle.pos_escpos.specs.declared.statuses.PrinterReply.TheVariants as reply
use Rattle.pos_escpos.specs.declared.statuses.Status.{Status}
use Rattle.pos_escpos.specs.Inputs.{drawer_table, printer_table}
use Rattle.pos_wire.specs.declared.settings.WireSettings.{WireSettings}

-- a number behind words, if there is one
abbrev pub number_word : Option ℕ → List ℕ
number_word None = []
number_word (Some number) = codes " " ++ decimal number

-- the line of an input of a device, if there is one
abbrev pub input_line : List ℕ → Option Input → List ℕ
input_line name None = []
input_line name (Some given) =
    codes "input " ++ name ++ codes " " ++ input_words given ++ number_word (input_number given) ++ codes "\n"

-- the lines of inputs
abbrev pub input_lines : List ℕ → List (Option Input) → List ℕ
input_lines name inputs = flat_map (input_line name) inputs

-- one of two texts, if a status tells which
abbrev pub word_if : List ℕ → List ℕ → Option Bool → List ℕ
word_if one other None = []
word_if one other (Some true) = one
word_if one other (Some false) = other

-- how much paper there is, if a status tells it
abbrev pub paper_word : Option PaperLevel → List ℕ
paper_word None = []
paper_word (Some paper.Good) = codes " paper good"
paper_word (Some paper.NearEnd) = codes " paper near"
paper_word (Some paper.Empty) = codes " paper empty"

-- the line of a status: what it tells
abbrev pub status_line : Status → List ℕ
status_line status =
    codes "status"
    ++ word_if (codes " pin high") (codes " pin low") status.is_pin_high
    ++ word_if (codes " offline yes") (codes " offline no") status.is_offline
    ++ word_if (codes " cover open") (codes " cover closed") status.is_cover_open
    ++ paper_word status.paper
    ++ word_if (codes " fault yes") (codes " fault no") status.has_fault
    ++ codes "\n"

-- the line of an acknowledgement
abbrev pub job_line : ℕ → List ℕ
job_line number = codes "job " ++ decimal number ++ codes "\n"

-- the lines of a status for a drawer's device: its inputs before the status
abbrev pub drawer_told : SensorSettings → List ℕ → Signs → Status → List ℕ
drawer_told sensors name signs status = input_lines name (drawer_table sensors signs status) ++ status_line status

-- the same for a printer's device
abbrev pub printer_told : SensorSettings → List ℕ → Signs → Status → List ℕ
printer_told sensors name signs status = input_lines name (printer_table sensors signs status) ++ status_line status

-- the lines of a reply for a drawer's device
abbrev pub drawer_lines : SensorSettings → List ℕ → Signs → PrinterReply → List ℕ
drawer_lines sensors name signs (reply.JobDone number) = job_line number
drawer_lines sensors name signs (reply.Automatic status) = drawer_told sensors name signs status
drawer_lines sensors name signs (reply.Now asked status) = drawer_told sensors name signs status
drawer_lines sensors name signs (reply.InOrder asked status) = drawer_told sensors name signs status

-- the same for a printer's device
abbrev pub printer_lines : SensorSettings → List ℕ → Signs → PrinterReply → List ℕ
printer_lines sensors name signs (reply.JobDone number) = job_line number
printer_lines sensors name signs (reply.Automatic status) = printer_told sensors name signs status
printer_lines sensors name signs (reply.Now asked status) = printer_told sensors name signs status
printer_lines sensors name signs (reply.InOrder asked status) = printer_told sensors name signs status

-- a device of this kind has a printer's replies
abbrev pub has_replies : Kind → Bool
has_replies kind.Drawer = true
has_replies kind.Scanner = false
has_replies (kind.Display rows columns) = false
has_replies (kind.Printer chars near) = true

-- what the sensors mean: of a drawer, the pin; of a printer, the paper
abbrev pub SensorsAre : WireSettings → Kind → SensorSettings → Type 0
SensorsAre settings (kind.Printer chars near) sensors = (sensors.near ≡ near) × (sensors.lines ≡ settings.lines)
SensorsAre settings other sensors = sensors.is_open_high ≡ (settings.open_is_high == 1)

-- the lines of a reply for a device of this kind
abbrev pub reply_lines : SensorSettings → List ℕ → Kind → Signs → PrinterReply → List ℕ
reply_lines sensors name kind.Drawer signs told = drawer_lines sensors name signs told
reply_lines sensors name (kind.Printer chars near) signs told = printer_lines sensors name signs told
reply_lines sensors name other signs told = []

-- A text is the lines of a reply.
pub record ReplyHasText (settings : WireSettings) (name : List ℕ) (is : Kind) (signs : Signs) (told : PrinterReply)
    (text : List ℕ) : Type 0 where
  pub sensors : SensorSettings
  pub sensors_are : SensorsAre settings is sensors
  pub lines : text ≡ reply_lines sensors name is signs told
