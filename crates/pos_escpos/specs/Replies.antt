-- What a printer sends: which bytes are a reply, and what it tells.
use Rattle.std.specs.Prelude.{◌≡◌, ℕ, ◌+◌, ◌*◌, ◌%◌, Bool, false, not, List, [], ◌∷◌, ◌++◌, length, nat_le, bit_and}
use Rattle.std.specs.Prelude.{◌==◌, ◌&&◌, ◌||◌, if◌then◌else◌, Option, Some, None}
use Rattle.std.specs.List.{list_all}
use Rattle.pos_service.specs.declared.signs.PaperLevel.{PaperLevel}
use Rattle.pos_service.specs.declared.signs.PaperLevel.TheVariants as paper
use Rattle.pos_escpos.specs.declared.printer_commands.NowStatus.{NowStatus}
use Rattle.pos_escpos.specs.declared.printer_commands.NowStatus.TheVariants as now
use Rattle.pos_escpos.specs.declared.printer_commands.OrderStatus.{OrderStatus}
use Rattle.pos_escpos.specs.declared.printer_commands.OrderStatus.TheVariants as in_order
use Rattle.pos_escpos.specs.declared.statuses.Status.{Status}
use Rattle.pos_escpos.specs.declared.statuses.PrinterReply.{PrinterReply}
use Rattle.pos_escpos.specs.declared.statuses.PrinterReply.TheVariants as reply
use Rattle.pos_escpos.specs.declared.statuses.Received.{Received}
use Rattle.pos_escpos.specs.PrinterCommands.{job_characters}

-- one of these bits is set
abbrev pub has_bits : ℕ → ℕ → Bool
has_bits mask b = not (bit_and b mask == 0)

-- Of the bytes of all replies the first alone has bit 4 set, but GS r's reply.

-- a byte that a reply may begin with
abbrev pub is_first : ℕ → Bool
is_first b = has_bits 16 b

-- the first byte of an automatic status, a reply to DLE EOT, the first byte of an acknowledgement
abbrev pub begins_status : ℕ → Bool
begins_status b = bit_and b 147 == 16

abbrev pub answers_now : ℕ → Bool
answers_now b = bit_and b 147 == 18

abbrev pub begins_job : ℕ → Bool
begins_job b = b == 55

-- the other bytes of an automatic status, and a reply to GS r
abbrev pub is_plain : ℕ → Bool
is_plain b = bit_and b 144 == 0

-- What a status tells.

-- nothing
abbrev pub untold : Status
untold = record { is_pin_high = None; is_offline = None; is_cover_open = None; paper = None; has_fault = None }

-- how much paper two sensors see
abbrev pub paper_by : Bool → Bool → PaperLevel
paper_by is_end is_near = if is_end then paper.Empty else (if is_near then paper.NearEnd else paper.Good)

-- a status of the paper end alone: there may be any amount, but none is told
abbrev pub paper_if_empty : Bool → Option PaperLevel
paper_if_empty is_end = if is_end then Some paper.Empty else None

-- a reply to DLE EOT. 1: bit 2 is the pin, bit 3 offline. 2: bit 2 is the cover, bit 5 the paper's end, bit 6 a fault.
-- 3: bits 3, 5 and 6 are faults. 4: bits 2 and 3 are the paper near its end, 5 and 6 its end.
abbrev pub now_status : NowStatus → ℕ → Status
now_status now.Printer b =
    record untold { is_pin_high = Some (has_bits 4 b); is_offline = Some (has_bits 8 b) }
now_status now.OfflineCause b = record untold {
  is_cover_open = Some (has_bits 4 b);
  paper = paper_if_empty (has_bits 32 b);
  has_fault = Some (has_bits 64 b);
}
now_status now.Fault b = record untold { has_fault = Some (has_bits 104 b) }
now_status now.Paper b = record untold { paper = Some (paper_by (has_bits 96 b) (has_bits 12 b)) }

-- a reply to GS r. 1: bits 0 and 1 are the paper near its end, 2 and 3 its end. 2: bit 0 is the pin.
abbrev pub order_status : OrderStatus → ℕ → Status
order_status in_order.Paper b = record untold { paper = Some (paper_by (has_bits 12 b) (has_bits 3 b)) }
order_status in_order.Drawer b = record untold { is_pin_high = Some (has_bits 1 b) }

-- an automatic status. Byte 1: bit 2 is the pin, 3 offline, 5 the cover. Byte 2: bits 3, 5 and 6 are faults. Byte 3:
-- bits 0 and 1 are the paper near its end, 2 and 3 its end.
abbrev pub automatic_status : ℕ → ℕ → ℕ → Status
automatic_status a b c = record {
  is_pin_high = Some (has_bits 4 a);
  is_offline = Some (has_bits 8 a);
  is_cover_open = Some (has_bits 32 a);
  paper = Some (paper_by (has_bits 12 c) (has_bits 3 c));
  has_fault = Some (has_bits 104 b);
}

-- what a reply tells of the printer
abbrev pub status_of : PrinterReply → Option Status
status_of (reply.Automatic status) = Some status
status_of (reply.Now asked status) = Some status
status_of (reply.InOrder asked status) = Some status
status_of (reply.JobDone number) = None

-- the number of a job, by the four characters that it is sent in
abbrev pub job_number : ℕ → ℕ → ℕ → ℕ → ℕ
job_number a b c d = a % 16 * 4096 + b % 16 * 256 + c % 16 * 16 + d % 16

-- a character of a job's number
abbrev pub is_job_character : ℕ → Bool
is_job_character b = nat_le 64 b && nat_le b 79

-- the acknowledgement of a job
abbrev pub job_reply : ℕ → List ℕ
job_reply number = 55 ∷ 34 ∷ job_characters number ++ 0 ∷ []

-- How the bytes are read, one by one.

-- a reader: what was asked by DLE EOT and GS r, and the bytes of a reply that has begun
pub record Reader : Type 0 where
  pub asked_now : Option NowStatus
  pub asked_in_order : Option OrderStatus
  pub begun : List ℕ

-- what comes of a byte, and the reader then
pub record Step : Type 0 where
  pub received : Received
  pub reader : Reader

-- a step, by its parts
abbrev pub step_of : Received → Reader → Step
step_of received reader = record { received = received; reader = reader }

-- a reader of which no reply has begun
abbrev pub idle : Reader → Reader
idle reader = record reader { begun = [] }

-- nothing is read, and so many bytes were no reply; a reply may have begun
abbrev pub reads_none : ℕ → List ℕ → Reader → Step
reads_none skipped begun reader = record {
  received = record { skipped = skipped; reply = None };
  reader = record reader { begun = begun };
}

-- a reply is read behind so many bytes that were none
abbrev pub reads_reply : ℕ → PrinterReply → Reader → Step
reads_reply skipped told reader = record {
  received = record { skipped = skipped; reply = Some told };
  reader = record reader { begun = [] };
}

-- a byte that is no reply, behind these bytes of one that had begun
abbrev pub skips_all : List ℕ → Reader → Step
skips_all begun reader = reads_none (length begun + 1) [] reader

-- a reply to DLE EOT, where one was asked for
abbrev pub now_received : Option NowStatus → List ℕ → ℕ → Reader → Step
now_received None begun b reader = skips_all begun reader
now_received (Some status) begun b reader =
    reads_reply (length begun) (reply.Now status (now_status status b)) (record reader { asked_now = None })

-- a byte with bit 4: what had begun before it is no reply
abbrev pub first_received : List ℕ → ℕ → Reader → Step
first_received begun b reader =
    if begins_status b || begins_job b then reads_none (length begun) (b ∷ []) reader
    else (if answers_now b then now_received reader.asked_now begun b reader else skips_all begun reader)

-- a byte alone without bit 4: a reply to GS r, where one was asked for
abbrev pub lone_received : Option OrderStatus → ℕ → Reader → Step
lone_received None b reader = skips_all [] reader
lone_received (Some status) b reader =
    if is_plain b
    then reads_reply 0 (reply.InOrder status (order_status status b)) (record reader { asked_in_order = None })
    else skips_all [] reader

-- byte k, from 0, of an acknowledgement, but its first
abbrev pub job_goes_on : ℕ → ℕ → Bool
job_goes_on k b = if k == 1 then b == 34 else (if k == 6 then b == 0 else is_job_character b)

-- a byte goes on a reply with this first byte, as its byte k, from 0
abbrev pub goes_on : ℕ → ℕ → ℕ → Bool
goes_on first k b = if begins_job first then job_goes_on k b else is_plain b

-- how many bytes a reply with this first byte has
abbrev pub reply_size : ℕ → ℕ
reply_size first = if begins_job first then 7 else 4

-- a reply that has all its bytes
abbrev pub whole_reply : List ℕ → Option PrinterReply
whole_reply (a ∷ b ∷ c ∷ d ∷ []) = Some (reply.Automatic (automatic_status a b c))
whole_reply (a ∷ b ∷ c ∷ d ∷ e ∷ f ∷ g ∷ []) = Some (reply.JobDone (job_number c d e f))
whole_reply bytes = None

-- a byte that goes on what has begun: the reply is whole, or it isn't yet
abbrev pub continued : List ℕ → ℕ → ℕ → Reader → Step
continued begun first b reader =
    if length begun + 1 == reply_size first
    then record {
      received = record { skipped = 0; reply = whole_reply (begun ++ b ∷ []) };
      reader = record reader { begun = [] };
    }
    else reads_none 0 (begun ++ b ∷ []) reader

-- a byte without bit 4, behind what has begun
abbrev pub later_received : List ℕ → ℕ → Reader → Step
later_received [] b reader = lone_received reader.asked_in_order b reader
later_received (first ∷ more) b reader =
    if goes_on first (length (first ∷ more)) b then continued (first ∷ more) first b reader
    else skips_all (first ∷ more) reader

-- what comes of one byte
abbrev pub byte_received : Reader → ℕ → Step
byte_received reader b =
    if is_first b then first_received reader.begun b reader else later_received reader.begun b reader

-- a reply, if there is one, before others
abbrev pub replies_before : Option PrinterReply → List PrinterReply → List PrinterReply
replies_before None replies = replies
replies_before (Some told) replies = told ∷ replies

-- what comes of bytes: the replies in order, how many bytes were none, and the reader then
pub record Reading : Type 0 where
  pub replies : List PrinterReply
  pub skipped : ℕ
  pub reader : Reader

-- a step before a reading
abbrev pub after_step : Step → Reading → Reading
after_step step reading = record {
  replies = replies_before step.received.reply reading.replies;
  skipped = step.received.skipped + reading.skipped;
  reader = reading.reader;
}

abbrev pub reading_of : Reader → List ℕ → Reading
reading_of reader [] = record { replies = []; skipped = 0; reader = reader }
reading_of reader (b ∷ bytes) =
    after_step (byte_received reader b) (reading_of (byte_received reader b).reader bytes)

-- What the reading of a stream keeps to.

-- one reply is read, what had begun before it is none, and the reader is this one with none begun
abbrev pub ReadsOne : Reader → PrinterReply → Reader → Reading → Type 0
ReadsOne reader told next reading = reading ≡ record {
  replies = told ∷ [];
  skipped = length reader.begun;
  reader = idle next;
}

-- the bytes of an automatic status, or the acknowledgement of a job, by their first and their number: no other has
-- bit 4 set
abbrev pub is_long_reply : List ℕ → Bool
is_long_reply [] = false
is_long_reply (first ∷ more) =
    (begins_status first || begins_job first) && length more + 1 == reply_size first
    && list_all (λ b. not (is_first b)) more

-- bytes that come of those that were sent: those marked true; behind the marks all are lost
abbrev pub kept : List Bool → List ℕ → List ℕ
kept [] bytes = []
kept (here ∷ marks) [] = []
kept (here ∷ marks) (b ∷ bytes) = if here then b ∷ kept marks bytes else kept marks bytes

-- how many bytes a reply has
abbrev pub bytes_of_reply : PrinterReply → ℕ
bytes_of_reply (reply.Automatic status) = 4
bytes_of_reply (reply.Now asked status) = 1
bytes_of_reply (reply.InOrder asked status) = 1
bytes_of_reply (reply.JobDone number) = 7

-- the same where there may be none
abbrev pub bytes_told : Option PrinterReply → ℕ
bytes_told None = 0
bytes_told (Some told) = bytes_of_reply told

-- how many bytes replies have
abbrev pub bytes_of_replies : List PrinterReply → ℕ
bytes_of_replies [] = 0
bytes_of_replies (told ∷ replies) = bytes_of_reply told + bytes_of_replies replies

-- a reading behind another one
abbrev pub joined : Reading → Reading → Reading
joined first next = record {
  replies = first.replies ++ next.replies;
  skipped = first.skipped + next.skipped;
  reader = next.reader;
}
