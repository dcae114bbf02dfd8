-- What a script asks of the machine, and what it prints (docs/reference/console.md, "Answers").
use Rattle.std.specs.Prelude.{◌≡◌, ℕ, ◌⊎◌, ◌++◌, ◌∷◌, [], Bool, true, false, List, Option, Some, None, MatchOption}
use Rattle.std.specs.Prelude.{Result, Ok, Err, IsTrue, is_some, option_map, if◌then◌else◌}
use Rattle.std.specs.Bool.{MatchBool}
use Rattle.pos_service.specs.Hardware.{hardware_of}
use Rattle.pos_counter.specs.Steps.{Request, Response, NewControl, CallOf, InputTo, Deliver, Snapshot, WorkOn, Attach}
use Rattle.pos_counter.specs.Steps.{Detach, Made, Attached}
use Rattle.pos_script.specs.declared.arguments.ArgumentFault.{ArgumentFault}
use Rattle.pos_script.specs.declared.print.LineReply.TheVariants as reply
use Rattle.pos_script.specs.Lines.{is_quiet}
use Rattle.pos_script.specs.Arguments.{Reading}
use Rattle.pos_script.specs.Commands.{LineRequest, asked_by}
use Rattle.pos_run.specs.Names.{ControlNames, number_named}
use Rattle.pos_run.specs.Spares.{SpareStates, spare_at, with_spare}
use Rattle.pos_script.specs.Text.{fault_text, printed, reply_text, response_text}

-- What a script has: the names of its controls, and its spares.
pub record Session : Type 0 where
  pub names : ControlNames
  pub spares : SpareStates

-- these names and these spares
abbrev pub session_with : ControlNames → SpareStates → Session
session_with names spares = record { names = names; spares = spares }

-- as a script begins: no control has a name, and the spares are these
abbrev pub begun_session : SpareStates → Session
begun_session spares = session_with [] spares

-- what a line asks of the machine, unless its control's name is in use or unknown, or its spare isn't there
abbrev pub request_of : Session → LineRequest → Option Request
request_of session (NewControl name category) =
    if is_some (number_named session.names name) then None else Some (NewControl tt category)
request_of session (CallOf name call) = option_map (λ number. CallOf number call) (number_named session.names name)
request_of session (InputTo device input) = Some (InputTo device input)
request_of session (Deliver name reply) =
    option_map (λ number. Deliver number reply) (number_named session.names name)
request_of session (Snapshot device) = Some (Snapshot device)
request_of session (WorkOn device) = Some (WorkOn device)
request_of session (Attach device number) =
    option_map (λ spare. Attach device (hardware_of spare)) (spare_at session.spares number)
request_of session (Detach device) = Some (Detach device)

-- what a line that asks nothing of the machine prints
abbrev pub rebuke : LineRequest → List ℕ
rebuke (Attach device number) = reply_text reply.BadSpare
rebuke asking = reply_text reply.BadControl

-- a new control has its name from then on, and the place of a spare that was attached is empty
abbrev pub session_after : Session → LineRequest → Response → Session
session_after session (NewControl name category) (Made number) =
    record session { names = session.names ++ (name, number) ∷ [] }
session_after session (Attach device number) Attached =
    record session { spares = with_spare session.spares number None }
session_after session asking response = session

-- whether a line gives a name, for which there may be no memory
abbrev pub gives_name : LineRequest → Bool
gives_name (NewControl name category) = true
gives_name asking = false

-- What becomes of a line: what it prints, its steps of the machine, and the session after it.
pub record Outcome : Type 0 where
  pub reply : Option (List ℕ)
  pub steps : List (Request × Response)
  pub session : Session

-- it prints nothing
abbrev pub passed_over : Session → Outcome
passed_over session = record { reply = None; steps = []; session = session }

-- it prints a text and asks nothing
abbrev pub turned_down : Session → List ℕ → Outcome
turned_down session text = record { reply = Some text; steps = []; session = session }

-- it asks the machine, and prints the response
abbrev pub responded : Session → LineRequest → Request → Response → Outcome
responded session asking request response = record {
  reply = Some (response_text response);
  steps = (request, response) ∷ [];
  session = session_after session asking response;
}

-- a request has one response, unless there was no memory for the name that the line gives
abbrev pub RequestBecomes : Session → LineRequest → Request → Outcome → Type 0
RequestBecomes session asking request outcome =
    (IsTrue (gives_name asking) × (outcome ≡ turned_down session (reply_text reply.Memory)))
    ⊎ ((response : Response) × (outcome ≡ responded session asking request response))

-- what becomes of a line that asks this
abbrev pub AskingBecomes : Session → LineRequest → Outcome → Type 0
AskingBecomes session asking outcome =
    MatchOption (request_of session asking) (outcome ≡ turned_down session (rebuke asking))
    (λ request. RequestBecomes session asking request outcome)

-- what becomes of a line as it was read, for which there may have been no memory
abbrev pub ReadingBecomes : Session → Reading LineRequest → Outcome → Type 0
ReadingBecomes session reading outcome =
    MatchOption reading.value (outcome ≡ turned_down session (reply_text reply.BadLine))
    (λ asking. (IsTrue reading.is_kept × (outcome ≡ turned_down session (reply_text reply.Memory)))
    ⊎ AskingBecomes session asking outcome)

-- what a line asks, if its words were read
abbrev pub asked_as : {A : Type 0} → (A → LineRequest) → Result A ArgumentFault → Result LineRequest ArgumentFault
asked_as make (Ok value) = Ok (make value)
asked_as make (Err why) = Err why

-- what becomes of a line that asks this, or whose words weren't read for this reason
abbrev pub ReadBecomes : Session → Result LineRequest ArgumentFault → Outcome → Type 0
ReadBecomes session (Ok asking) outcome = AskingBecomes session asking outcome
ReadBecomes session (Err why) outcome = outcome ≡ turned_down session (fault_text why)

-- what becomes of a line
abbrev pub LineBecomes : Session → List ℕ → Outcome → Type 0
LineBecomes session line outcome =
    MatchBool (is_quiet line) (outcome ≡ passed_over session) (ReadingBecomes session (asked_by line) outcome)

-- From one session to another: the lines ask these steps of the machine and print this text, in their order.
abbrev pub LinesPrint : Session → List (List ℕ) → List (Request × Response) → List ℕ → Session → Type 0
LinesPrint session [] steps text after = (steps ≡ []) × (text ≡ []) × (after ≡ session)
LinesPrint session (line ∷ lines) steps text after =
    (outcome : Outcome) × (more : List (Request × Response)) × (rest : List ℕ)
    × LineBecomes session line outcome × LinesPrint outcome.session lines more rest after
    × (steps ≡ outcome.steps ++ more) × (text ≡ printed outcome.reply ++ rest)

-- what requests with their responses lead to: from one state to another
abbrev pub Leads : Type 0 → Type 1
Leads C = C → List (Request × Response) → C → Type 0

-- From one state and session to others: what the lines ask is a run, and this is its text.
pub record Transcript {C : Type 0} (Runs : Leads C) (old : C) (session : Session) (lines : List (List ℕ))
    (text : List ℕ) (after : Session) (new : C) : Type 0 where
  pub steps : List (Request × Response)
  pub run : Runs old steps new
  pub prints : LinesPrint session lines steps text after

-- What a part of the program does to a state, so that this becomes of a line.
pub record RunsLine {C : Type 0} (Runs : Leads C) (old : C) (Becomes : Outcome → Type 0) (reply : Option (List ℕ))
    (session : Session) (new : C) : Type 0 where
  pub steps : List (Request × Response)
  pub run : Runs old steps new
  pub becomes : Becomes (record { reply = reply; steps = steps; session = session })
